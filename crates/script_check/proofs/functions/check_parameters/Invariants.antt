use Rattle.std.proofs.Common.{◌≡◌, drop, map}
use Rattle.script_syntax.specs.Views.{parameter_of as parsed_parameter}
use Rattle.script_check.specs.Scopes.{context_of}
use Rattle.script_check.specs.Typings.{onto_parameters}
use Rattle.script_check.specs.Inference.{declared}
use Rattle.script_check.proofs.functions.check_parameters.Given as goal

abbrev pub invariant-loop-parameter : goal.invariant-loop-parameter
invariant-loop-parameter l =
    onto_parameters l.checked.items (declared (map parsed_parameter (drop l.parameter-index l.parameters)) (context_of l.scope.items))
    ≡ declared (map parsed_parameter l.parameters) (context_of l.fn.scope.items)
