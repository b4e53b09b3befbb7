use Rattle.std.proofs.Common.{◌≡◌, ◌++◌, List, map, drop}
use Rattle.script_tokens.specs.Tokens.{Token}
use Rattle.script_tokens.specs.Views.{token_of}
use Rattle.script_syntax.specs.Grammar.{statements_before}
use Rattle.script_syntax.specs.Views.{statements_of}
use Rattle.script_syntax.specs.Printing.{written_statements}
use Rattle.script_syntax.proofs.printer.+writing.Given as goal

-- what is still to write
abbrev pub invariant-add_statements-loop-statement : goal.invariant-add_statements-loop-statement
invariant-add_statements-loop-statement l =
    (rest : List Token) → map token_of l.tokens.items ++ statements_before (written_statements (statements_of (drop l.statement-index l.statements))) rest ≡ map token_of l.fn.tokens.items ++ statements_before (written_statements (statements_of l.fn.statements)) rest
