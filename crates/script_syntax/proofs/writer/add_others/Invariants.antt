use Rattle.std.proofs.Common.{◌≡◌, ◌++◌, List, map, drop}
use Rattle.script_tokens.specs.Tokens.{Token}
use Rattle.script_tokens.specs.Views.{token_of}
use Rattle.script_syntax.specs.Expressions.{more_before}
use Rattle.script_syntax.specs.Views.{trees_of}
use Rattle.script_syntax.specs.Printing.{written_others}
use Rattle.script_syntax.proofs.writer.add_others.Given as goal

-- what is still to write
abbrev pub invariant-loop-item : goal.invariant-loop-item
invariant-loop-item l =
    (rest : List Token) → map token_of l.tokens.items ++ more_before (written_others (trees_of (drop l.item-index l.others))) rest ≡ map token_of l.fn.tokens.items ++ more_before (written_others (trees_of l.fn.others)) rest
