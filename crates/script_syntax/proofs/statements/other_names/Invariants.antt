use Rattle.std.proofs.Common.{◌≤◌, length}
use Rattle.script_tokens.specs.Views.{tokens_of}
use Rattle.script_syntax.specs.Reading.{other_names}
use Rattle.script_syntax.proofs.Loops.{NamesSoFar}
use Rattle.script_syntax.proofs.statements.other_names.Given as goal

-- the names so far with what is read of the rest; there aren't more than 3, and no tokens are added
abbrev pub invariant-loop-more : goal.invariant-loop-more
invariant-loop-more l = record { so_far : NamesSoFar l.others.items l.rest (other_names (tokens_of l.fn.tokens)); few : length l.others.items ≤ 3; no_longer : length l.rest ≤ length l.fn.tokens }

abbrev pub decreases-loop-more : goal.decreases-loop-more
decreases-loop-more l = length l.rest
