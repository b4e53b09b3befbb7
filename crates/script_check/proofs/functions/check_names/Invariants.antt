use Rattle.std.proofs.Common.{◌≡◌, [], drop, take}
use Rattle.script_syntax.specs.Views.{program_of}
use Rattle.script_check.specs.Inference.{are_apart}
use Rattle.script_check.proofs.functions.check_names.Given as goal

-- the names of the functions so far and of those that are left are apart where all are
abbrev pub invariant-loop-i : goal.invariant-loop-i
invariant-loop-i l = are_apart (program_of (take l.i l.functions)) (program_of (drop l.i l.functions)) ≡ are_apart [] (program_of l.functions)
