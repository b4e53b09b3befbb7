use Rattle.std.proofs.Common.{◌≡◌, drop}
use Rattle.script_syntax.specs.Views.{program_of}
use Rattle.script_check.specs.Rules.{function_in}
use Rattle.script_check.proofs.scope.find.Given as goal

abbrev pub invariant-loop-function : goal.invariant-loop-function
invariant-loop-function l = function_in (program_of (drop l.function-index l.functions)) l.name ≡ function_in (program_of l.functions) l.name
