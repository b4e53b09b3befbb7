use Rattle.std.proofs.Common.{◌≡◌, ◌++◌, List, map, drop}
use Rattle.script_tokens.specs.Tokens.{Token}
use Rattle.script_tokens.specs.Views.{token_of}
use Rattle.script_syntax.specs.Grammar.{more_parameters_before, parameters_before}
use Rattle.script_syntax.specs.Views.{parameter_of}
use Rattle.script_syntax.proofs.printer.add_parameters.Given as goal

-- what is still to write
abbrev pub invariant-loop-parameter : goal.invariant-loop-parameter
invariant-loop-parameter l =
    (rest : List Token) → map token_of l.tokens.items ++ more_parameters_before (map parameter_of (drop l.parameter-index l.others)) rest ≡ map token_of l.fn.tokens.items ++ parameters_before (map parameter_of l.fn.parameters) rest
