use Rattle.std.proofs.Common.{◌≡◌, ◌+◌, drop, map}
use Rattle.script_syntax.specs.Views.{program_of, tree_of, trees_of, parameter_of as parsed_parameter}
use Rattle.script_check.specs.Sizes.{size_of, size_of_all}
use Rattle.script_check.specs.Trees.{kind_of}
use Rattle.script_check.specs.Scopes.{context_of}
use Rattle.script_check.specs.Typings.{onto, onto_marked}
use Rattle.script_check.specs.Inference.{infer_each, infer_arguments, infer_marked}
use Rattle.script_check.proofs.expressions.+expressions.Given as goal

abbrev pub decreases-check_expr : goal.decreases-check_expr
decreases-check_expr l = size_of (tree_of l.expr.now)

abbrev pub decreases-check_number : goal.decreases-check_number
decreases-check_number l = size_of (tree_of l.expr.now) + 1

abbrev pub decreases-check_push : goal.decreases-check_push
decreases-check_push l = size_of (tree_of l.list.now) + size_of (tree_of l.item.now) + 1

abbrev pub decreases-check_list : goal.decreases-check_list
decreases-check_list l = size_of_all (trees_of l.items.now) + 2

abbrev pub decreases-check_each : goal.decreases-check_each
decreases-check_each l = size_of_all (trees_of l.items.now) + 1

abbrev pub decreases-check_call : goal.decreases-check_call
decreases-check_call l = size_of_all (trees_of l.arguments.now) + 2

abbrev pub decreases-check_arguments : goal.decreases-check_arguments
decreases-check_arguments l = size_of_all (trees_of l.arguments.now) + 1

abbrev pub decreases-check_remote : goal.decreases-check_remote
decreases-check_remote l = size_of_all (trees_of l.arguments.now) + 2

abbrev pub decreases-check_marked : goal.decreases-check_marked
decreases-check_marked l = size_of_all (trees_of l.arguments.now) + 1

abbrev pub invariant-check_each-loop-item : goal.invariant-check_each-loop-item
invariant-check_each-loop-item l =
    onto l.checked.items (infer_each (program_of l.functions) (context_of l.scope) (kind_of l.kind) (trees_of (drop l.item-index l.items)))
    ≡ onto l.fn.checked.items (infer_each (program_of l.functions) (context_of l.scope) (kind_of l.kind) (trees_of l.items))

abbrev pub invariant-check_arguments-loop-i : goal.invariant-check_arguments-loop-i
invariant-check_arguments-loop-i l =
    onto l.checked.items (infer_arguments (program_of l.functions) (context_of l.scope) (trees_of (drop l.i l.arguments)) (map parsed_parameter (drop l.i l.parameters)))
    ≡ infer_arguments (program_of l.functions) (context_of l.scope) (trees_of l.arguments) (map parsed_parameter l.parameters)

abbrev pub invariant-check_marked-loop-i : goal.invariant-check_marked-loop-i
invariant-check_marked-loop-i l =
    onto_marked l.marks.items l.exprs.items (infer_marked (program_of l.functions) (context_of l.scope) (trees_of (drop l.i l.arguments)) (map parsed_parameter (drop l.i l.parameters)))
    ≡ infer_marked (program_of l.functions) (context_of l.scope) (trees_of l.arguments) (map parsed_parameter l.parameters)
