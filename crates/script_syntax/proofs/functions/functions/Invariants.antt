use Rattle.std.proofs.Common.{◌≤◌, length}
use Rattle.script_tokens.specs.Views.{tokens_of}
use Rattle.script_syntax.proofs.Loops.{FunctionsSoFar, all_functions}
use Rattle.script_syntax.proofs.functions.functions.Given as goal

-- the functions so far with what is read of the rest; and there aren't more than 64
abbrev pub invariant-loop-more : goal.invariant-loop-more
invariant-loop-more l = record { so_far : FunctionsSoFar l.functions.items l.rest (all_functions (tokens_of l.fn.tokens)); few : length l.functions.items ≤ 64 }

abbrev pub decreases-loop-more : goal.decreases-loop-more
decreases-loop-more l = length l.rest
