use Rattle.std.proofs.Common.{◌≡◌, take, map}
use Rattle.script_check.specs.Trees.{parameter_of}
use Rattle.script_check.proofs.copy.copy_parameters.Given as goal

abbrev pub invariant-loop-parameter : goal.invariant-loop-parameter
invariant-loop-parameter l = map parameter_of l.copies.items ≡ map parameter_of (take l.parameter-index l.parameters)
