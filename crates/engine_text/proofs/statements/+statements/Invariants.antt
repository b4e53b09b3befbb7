use Rattle.std.proofs.Common.{◌≡◌, ◌++◌, drop, string_bytes}
use Rattle.script_check.specs.Trees.{statements_of}
use Rattle.engine_text.specs.Statements.{lines_text}
use Rattle.engine_text.proofs.statements.+statements.Given as goal

-- the text so far, and what is left
abbrev pub invariant-write_lines-loop-statement : goal.invariant-write_lines-loop-statement
invariant-write_lines-loop-statement l =
    string_bytes l.text ++ lines_text l.margin (statements_of (drop l.statement-index l.statements))
    ≡ string_bytes l.fn.text ++ lines_text l.margin (statements_of l.statements)
