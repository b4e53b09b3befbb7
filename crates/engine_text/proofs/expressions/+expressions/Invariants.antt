use Rattle.std.proofs.Common.{◌≡◌, ◌++◌, false, drop, string_bytes}
use Rattle.script_check.specs.Trees.{exprs_of}
use Rattle.engine_text.specs.Expressions.{arguments_text, items_text, marked_text}
use Rattle.engine_text.proofs.expressions.+expressions.Given as goal

-- the text so far, and what is left

abbrev pub invariant-write_items-loop-item : goal.invariant-write_items-loop-item
invariant-write_items-loop-item l =
    string_bytes l.text ++ items_text l.later (exprs_of (drop l.item-index l.items)) ≡ string_bytes l.fn.text ++ items_text false (exprs_of l.items)

abbrev pub invariant-write_arguments-loop-argument : goal.invariant-write_arguments-loop-argument
invariant-write_arguments-loop-argument l =
    string_bytes l.text ++ arguments_text (exprs_of (drop l.argument-index l.arguments)) ≡ string_bytes l.fn.text ++ arguments_text (exprs_of l.arguments)

abbrev pub invariant-write_marked-loop-argument : goal.invariant-write_marked-loop-argument
invariant-write_marked-loop-argument l =
    string_bytes l.text ++ marked_text l.left (exprs_of (drop l.argument-index l.arguments))
    ≡ string_bytes l.fn.text ++ marked_text l.fn.marks (exprs_of l.arguments)
