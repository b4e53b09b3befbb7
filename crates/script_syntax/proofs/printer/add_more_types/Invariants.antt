use Rattle.std.proofs.Common.{◌≡◌, ◌++◌, List, map, drop}
use Rattle.script_tokens.specs.Tokens.{Token}
use Rattle.script_tokens.specs.Views.{token_of}
use Rattle.script_syntax.specs.Grammar.{more_kinds_before}
use Rattle.script_syntax.specs.Views.{type_of}
use Rattle.script_syntax.proofs.printer.add_more_types.Given as goal

-- what is still to write
abbrev pub invariant-loop-other : goal.invariant-loop-other
invariant-loop-other l =
    (rest : List Token) → map token_of l.tokens.items ++ more_kinds_before (map type_of (drop l.other-index l.others)) rest ≡ map token_of l.fn.tokens.items ++ more_kinds_before (map type_of l.fn.others) rest
