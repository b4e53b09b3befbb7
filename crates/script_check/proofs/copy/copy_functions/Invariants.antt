use Rattle.std.proofs.Common.{◌≡◌, take}
use Rattle.script_check.specs.Trees.{script_of}
use Rattle.script_check.proofs.copy.copy_functions.Given as goal

abbrev pub invariant-loop-function : goal.invariant-loop-function
invariant-loop-function l = script_of l.copies.items ≡ script_of (take l.function-index l.functions)
