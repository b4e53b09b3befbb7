use Rattle.std.proofs.Common.{◌≡◌, drop}
use Rattle.script_syntax.specs.Views.{program_of}
use Rattle.script_check.specs.Typings.{onto_functions}
use Rattle.script_check.specs.Inference.{functions_from}
use Rattle.script_check.proofs.functions.check_functions.Given as goal

abbrev pub invariant-loop-function : goal.invariant-loop-function
invariant-loop-function l =
    onto_functions l.checked.items (functions_from (program_of l.functions) (program_of (drop l.function-index l.functions)))
    ≡ functions_from (program_of l.functions) (program_of l.functions)
