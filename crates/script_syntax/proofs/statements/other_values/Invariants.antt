use Rattle.std.proofs.Common.{◌≤◌, length}
use Rattle.script_tokens.specs.Views.{tokens_of}
use Rattle.script_syntax.specs.Reading.{outermost, other_values}
use Rattle.script_syntax.proofs.Loops.{ValuesSoFar}
use Rattle.script_syntax.proofs.statements.other_values.Given as goal

-- the values so far with what is read of the rest; there aren't more than 3, and no tokens are added
abbrev pub invariant-loop-more : goal.invariant-loop-more
invariant-loop-more l = record { so_far : ValuesSoFar (outermost l.levels) l.others.items l.rest (other_values (outermost l.levels) (tokens_of l.fn.tokens)); few : length l.others.items ≤ 3; no_longer : length l.rest ≤ length l.fn.tokens }

abbrev pub decreases-loop-more : goal.decreases-loop-more
decreases-loop-more l = length l.rest
