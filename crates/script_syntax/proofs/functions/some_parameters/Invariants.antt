use Rattle.std.proofs.Common.{◌≤◌, ◌<◌, length}
use Rattle.script_tokens.specs.Views.{tokens_of}
use Rattle.script_syntax.specs.Reading.{some_parameters, kind_at}
use Rattle.script_syntax.proofs.Loops.{ParametersSoFar}
use Rattle.script_syntax.proofs.functions.some_parameters.Given as goal

-- the parameters so far with what is read of the rest; there aren't more than 16, and tokens were taken
abbrev pub invariant-loop-more : goal.invariant-loop-more
invariant-loop-more l = record { so_far : ParametersSoFar (kind_at l.levels) l.parameters.items l.rest (some_parameters (kind_at l.levels) (tokens_of l.fn.tokens)); few : length l.parameters.items ≤ 16; shorter : length l.rest < length l.fn.tokens }

abbrev pub decreases-loop-more : goal.decreases-loop-more
decreases-loop-more l = length l.rest
