use Rattle.std.proofs.Common.{◌<◌, ◌+◌, ◌*◌, length}
use Rattle.script_tokens.specs.declared.token.Mark.TheVariants as marks
use Rattle.script_tokens.specs.Views.{tokens_of}
use Rattle.script_syntax.specs.Trees.{Binary}
use Rattle.script_syntax.specs.Reading.{adding, multiplying, after, product, sum, items, expression_at, postfix, unary_at, kind_at, deeper}
use Rattle.script_syntax.specs.Views.{tree_of, trees_of}
use Rattle.script_syntax.proofs.Loops.{ChainSoFar, IndexesSoFar, and_next}
use Rattle.script_syntax.proofs.expressions.+expressions.Given as goal

abbrev pub decreases-enclosed : goal.decreases-enclosed
decreases-enclosed l = l.levels * 16 + 1

abbrev pub decreases-pair : goal.decreases-pair
decreases-pair l = l.levels * 16 + 1

abbrev pub decreases-arguments : goal.decreases-arguments
decreases-arguments l = l.levels * 16 + 1

abbrev pub decreases-primary : goal.decreases-primary
decreases-primary l = l.levels * 16 + 2

abbrev pub decreases-postfix : goal.decreases-postfix
decreases-postfix l = l.levels * 16 + 3

abbrev pub decreases-unary : goal.decreases-unary
decreases-unary l = l.levels * 16 + 4

abbrev pub decreases-product : goal.decreases-product
decreases-product l = l.levels * 16 + 5

abbrev pub decreases-sum : goal.decreases-sum
decreases-sum l = l.levels * 16 + 6

abbrev pub decreases-expression : goal.decreases-expression
decreases-expression l = l.levels * 16 + 7

abbrev pub decreases-items : goal.decreases-items
decreases-items l = l.levels * 16 + 8

abbrev pub invariant-product-loop-operator : goal.invariant-product-loop-operator
invariant-product-loop-operator l = record { so_far : ChainSoFar multiplying (unary_at l.levels) Binary (tree_of l.left) l.rest (product (unary_at l.levels) (tokens_of l.fn.tokens)); shorter : length l.rest < length l.fn.tokens }

abbrev pub decreases-product-loop-operator : goal.decreases-product-loop-operator
decreases-product-loop-operator l = length l.rest

abbrev pub invariant-sum-loop-operator : goal.invariant-sum-loop-operator
invariant-sum-loop-operator l = record { so_far : ChainSoFar adding (product (unary_at l.levels)) Binary (tree_of l.left) l.rest (sum (unary_at l.levels) (tokens_of l.fn.tokens)); shorter : length l.rest < length l.fn.tokens }

abbrev pub decreases-sum-loop-operator : goal.decreases-sum-loop-operator
decreases-sum-loop-operator l = length l.rest

abbrev pub invariant-items-loop-more : goal.invariant-items-loop-more
invariant-items-loop-more l = record { so_far : ChainSoFar (after marks.Comma) (expression_at l.levels) and_next (trees_of l.items.items) l.rest (items (unary_at l.levels) (tokens_of l.fn.tokens)); shorter : length l.rest < length l.fn.tokens }

abbrev pub decreases-items-loop-more : goal.decreases-items-loop-more
decreases-items-loop-more l = length l.rest

abbrev pub invariant-postfix-loop-opened : goal.invariant-postfix-loop-opened
invariant-postfix-loop-opened l = record { so_far : IndexesSoFar (deeper l.levels) (tree_of l.left) l.rest (postfix (kind_at l.levels) (deeper l.levels) (tokens_of l.fn.tokens)); shorter : length l.rest < length l.fn.tokens }

abbrev pub decreases-postfix-loop-opened : goal.decreases-postfix-loop-opened
decreases-postfix-loop-opened l = length l.rest
