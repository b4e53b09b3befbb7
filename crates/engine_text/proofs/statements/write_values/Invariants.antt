use Rattle.std.proofs.Common.{◌≡◌, ◌++◌, false, drop, string_bytes}
use Rattle.script_check.specs.Trees.{exprs_of}
use Rattle.engine_text.specs.Statements.{values_text}
use Rattle.engine_text.proofs.statements.write_values.Given as goal

-- the text so far, and what is left
abbrev pub invariant-loop-value : goal.invariant-loop-value
invariant-loop-value l =
    string_bytes l.text ++ values_text l.later (exprs_of (drop l.value-index l.values)) ≡ string_bytes l.fn.text ++ values_text false (exprs_of l.values)
