use Rattle.std.proofs.Common.{◌≤◌, length}
use Rattle.script_tokens.specs.Views.{tokens_of}
use Rattle.script_syntax.specs.Reading.{kind_at, other_kinds}
use Rattle.script_syntax.proofs.Loops.{KindsSoFar}
use Rattle.script_syntax.proofs.types.other_types.Given as goal

-- the types so far with what is read of the rest; there aren't more than 3, and no tokens are added
abbrev pub invariant-loop-more : goal.invariant-loop-more
invariant-loop-more l = record { so_far : KindsSoFar (kind_at l.levels) l.others.items l.rest (other_kinds (kind_at l.levels) (tokens_of l.fn.tokens)); few : length l.others.items ≤ 3; no_longer : length l.rest ≤ length l.fn.tokens }

abbrev pub decreases-loop-more : goal.decreases-loop-more
decreases-loop-more l = length l.rest
