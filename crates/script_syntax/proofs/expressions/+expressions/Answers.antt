use Rattle.std.proofs.Common.{◌≡◌, ◌<◌, length, ap, ◌∙◌, arith, [], ◌∷◌, ◌++◌}
use Rattle.std.proofs.lemmas.Result.{err_from_is_err_and}
use Rattle.script_tokens.specs.declared.token.Mark.TheVariants as marks
use Rattle.script_tokens.specs.Views.{tokens_of}
use Rattle.script_syntax.specs.Trees.{Binary}
use Rattle.script_syntax.specs.Reading.{adding, multiplying, after, before, product, sum, items, expression_at, enclosed, postfix, unary_at, kind_at, deeper}
use Rattle.script_syntax.specs.Views.{tree_of, trees_of}
use Rattle.script_syntax.proofs.Rows.{trees_and}
use Rattle.script_syntax.proofs.Loops.{chain_ends, chain_steps, chain_fails, product_begins, product_fails, sum_begins, sum_fails, items_begin, items_fail, and_next, item_of, postfix_begins, postfix_fails}
use Rattle.script_syntax.proofs.expressions.+expressions.Goals as goal

-- of each loop: where a part is refused, the definitions read nothing either
pub product-returns-in_err-left-clause-exact : goal.product-returns-in_err-left-clause-exact
product-returns-in_err-left-clause-exact t c =
    let p = err_from_is_err_and c.from_residual.result c.from_residual.ensures.1 in
    rw (p.1, p.2) (product_fails (unary_at c.args.levels) (tokens_of c.args.tokens.now) c.in_err-left.field-0.0 c.in_err-left.ensures.exact)

-- the first part begins the chain
pub product-loop-operator-init : goal.product-loop-operator-init
product-loop-operator-init t c =
    record { so_far = product_begins (unary_at c.args.levels) (tree_of c.in_ok-left.left) c.in_ok-left.rest.now c.args.tokens.now c.in_ok-left.ensures.exact; shorter = c.in_ok-left.ensures.shorter }

pub product-returns-in_err-right-clause-exact : goal.product-returns-in_err-right-clause-exact
product-returns-in_err-right-clause-exact t c =
    let p = err_from_is_err_and c.from_residual-in_err-right.result c.from_residual-in_err-right.ensures.1 in
    rw (p.1, p.2) (chain_fails multiplying (unary_at c.args.levels) Binary (tree_of c.loop-operator.left) c.in-Some.operator c.loop-operator.rest.now (tokens_of c.in-Some.more.now) (product (unary_at c.args.levels) (tokens_of c.args.tokens.now)) c.in_err-right.field-0.0 c.loop-operator.invariant.so_far c.in-Some.ensures.front c.in_err-right.ensures.exact)

-- an operator and one part more belong to it
pub product-loop-operator-preserved : goal.product-loop-operator-preserved
product-loop-operator-preserved t c =
    record {
      so_far = rw c.in_ok-left-2.ensures (chain_steps multiplying (unary_at c.args.levels) Binary (tree_of c.loop-operator.left) c.in-Some.operator (tree_of c.in_ok-right.right) c.loop-operator.rest.now (tokens_of c.in-Some.more.now) c.in_ok-right.after.now (product (unary_at c.args.levels) (tokens_of c.args.tokens.now)) c.loop-operator.invariant.so_far c.in-Some.ensures.front c.in_ok-right.ensures.exact (omega (arith, c.in-Some.ensures.shorter, c.in_ok-right.ensures.shorter)));
      shorter = omega (arith, c.loop-operator.invariant.shorter, c.in-Some.ensures.shorter, c.in_ok-right.ensures.shorter);
    }

-- where no operator follows, the chain is what the definitions read
pub product-returns-clause-exact : goal.product-returns-clause-exact
product-returns-clause-exact t c =
    chain_ends multiplying (unary_at c.args.levels) Binary (tree_of c.loop-operator.left) c.loop-operator.rest.now (product (unary_at c.args.levels) (tokens_of c.args.tokens.now)) c.loop-operator.invariant.so_far c.in_default.ensures.front

pub sum-returns-in_err-left-clause-exact : goal.sum-returns-in_err-left-clause-exact
sum-returns-in_err-left-clause-exact t c =
    let p = err_from_is_err_and c.from_residual.result c.from_residual.ensures.1 in
    rw (p.1, p.2) (sum_fails (unary_at c.args.levels) (tokens_of c.args.tokens.now) c.in_err-left.field-0.0 c.in_err-left.ensures.exact)

pub sum-loop-operator-init : goal.sum-loop-operator-init
sum-loop-operator-init t c =
    record { so_far = sum_begins (unary_at c.args.levels) (tree_of c.in_ok-left.left) c.in_ok-left.rest.now c.args.tokens.now c.in_ok-left.ensures.exact; shorter = c.in_ok-left.ensures.shorter }

pub sum-returns-in_err-right-clause-exact : goal.sum-returns-in_err-right-clause-exact
sum-returns-in_err-right-clause-exact t c =
    let p = err_from_is_err_and c.from_residual-in_err-right.result c.from_residual-in_err-right.ensures.1 in
    rw (p.1, p.2) (chain_fails adding (product (unary_at c.args.levels)) Binary (tree_of c.loop-operator.left) c.in-Some.operator c.loop-operator.rest.now (tokens_of c.in-Some.more.now) (sum (unary_at c.args.levels) (tokens_of c.args.tokens.now)) c.in_err-right.field-0.0 c.loop-operator.invariant.so_far c.in-Some.ensures.front c.in_err-right.ensures.exact)

pub sum-loop-operator-preserved : goal.sum-loop-operator-preserved
sum-loop-operator-preserved t c =
    record {
      so_far = rw c.in_ok-left-2.ensures (chain_steps adding (product (unary_at c.args.levels)) Binary (tree_of c.loop-operator.left) c.in-Some.operator (tree_of c.in_ok-right.right) c.loop-operator.rest.now (tokens_of c.in-Some.more.now) c.in_ok-right.after.now (sum (unary_at c.args.levels) (tokens_of c.args.tokens.now)) c.loop-operator.invariant.so_far c.in-Some.ensures.front c.in_ok-right.ensures.exact (omega (arith, c.in-Some.ensures.shorter, c.in_ok-right.ensures.shorter)));
      shorter = omega (arith, c.loop-operator.invariant.shorter, c.in-Some.ensures.shorter, c.in_ok-right.ensures.shorter);
    }

pub sum-returns-clause-exact : goal.sum-returns-clause-exact
sum-returns-clause-exact t c =
    chain_ends adding (product (unary_at c.args.levels)) Binary (tree_of c.loop-operator.left) c.loop-operator.rest.now (sum (unary_at c.args.levels) (tokens_of c.args.tokens.now)) c.loop-operator.invariant.so_far c.in_default.ensures.front

pub items-returns-in_err-first-clause-exact : goal.items-returns-in_err-first-clause-exact
items-returns-in_err-first-clause-exact t c =
    let p = err_from_is_err_and c.from_residual.result c.from_residual.ensures.1 in
    rw (p.1, p.2) (items_fail (unary_at c.args.levels) (tokens_of c.args.tokens.now) c.in_err-first.field-0.0 c.in_err-first.ensures.exact)

pub items-loop-more-init : goal.items-loop-more-init
items-loop-more-init t c =
    let e : c.push.new.self.items ≡ c.in_ok-first.first ∷ [] = c.in_ok-push.ensures.items ∙ ap (λ xs. xs ++ c.in_ok-first.first ∷ []) c.new-items.ensures.items in
    record { so_far = rw e (items_begin (unary_at c.args.levels) c.in_ok-first.first c.in_ok-first.rest.now c.args.tokens.now c.in_ok-first.ensures.exact); shorter = c.in_ok-first.ensures.shorter }

pub items-returns-in_err-item-clause-exact : goal.items-returns-in_err-item-clause-exact
items-returns-in_err-item-clause-exact t c =
    let p = err_from_is_err_and c.from_residual-in_err-item.result c.from_residual-in_err-item.ensures.1 in
    rw (p.1, p.2) (chain_fails (after marks.Comma) (expression_at c.args.levels) and_next (trees_of c.loop-more.items.items) tt c.loop-more.rest.now (tokens_of c.in-Some.more.now) (items (unary_at c.args.levels) (tokens_of c.args.tokens.now)) c.in_err-item.field-0.0 c.loop-more.invariant.so_far c.in-Some.ensures.front c.in_err-item.ensures.exact)

pub items-loop-more-preserved : goal.items-loop-more-preserved
items-loop-more-preserved t c =
    record {
      so_far = rw (c.in_ok-push-2.ensures.items, trees_and c.loop-more.items.items c.in_ok-item.item) (chain_steps (after marks.Comma) (expression_at c.args.levels) and_next (trees_of c.loop-more.items.items) tt (tree_of c.in_ok-item.item) c.loop-more.rest.now (tokens_of c.in-Some.more.now) c.in_ok-item.after.now (items (unary_at c.args.levels) (tokens_of c.args.tokens.now)) c.loop-more.invariant.so_far c.in-Some.ensures.front c.in_ok-item.ensures.exact (omega (arith, c.in-Some.ensures.shorter, c.in_ok-item.ensures.shorter)));
      shorter = omega (arith, c.loop-more.invariant.shorter, c.in-Some.ensures.shorter, c.in_ok-item.ensures.shorter);
    }

pub items-returns-clause-exact : goal.items-returns-clause-exact
items-returns-clause-exact t c =
    chain_ends (after marks.Comma) (expression_at c.args.levels) and_next (trees_of c.loop-more.items.items) c.loop-more.rest.now (items (unary_at c.args.levels) (tokens_of c.args.tokens.now)) c.loop-more.invariant.so_far c.in_default.ensures.front

pub postfix-returns-in_err-left-clause-exact : goal.postfix-returns-in_err-left-clause-exact
postfix-returns-in_err-left-clause-exact t c =
    let p = err_from_is_err_and c.from_residual.result c.from_residual.ensures.1 in
    rw (p.1, p.2) (postfix_fails (kind_at c.args.levels) (deeper c.args.levels) (tokens_of c.args.tokens.now) c.in_err-left.field-0.0 c.in_err-left.ensures.exact)

pub postfix-loop-opened-init : goal.postfix-loop-opened-init
postfix-loop-opened-init t c =
    record { so_far = postfix_begins (kind_at c.args.levels) (deeper c.args.levels) (tree_of c.in_ok-left.left) c.in_ok-left.rest.now c.args.tokens.now c.in_ok-left.ensures.exact; shorter = c.in_ok-left.ensures.shorter }

pub postfix-returns-in_err-place-clause-exact : goal.postfix-returns-in_err-place-clause-exact
postfix-returns-in_err-place-clause-exact t c =
    let p = err_from_is_err_and c.from_residual-in_err-place.result c.from_residual-in_err-place.ensures.1 in
    rw (p.1, p.2) (chain_fails (before marks.OpenBracket) (enclosed (deeper c.args.levels) marks.OpenBracket marks.CloseBracket) item_of (tree_of c.loop-opened.left) tt c.loop-opened.rest.now (tokens_of c.in-Some.opened.now) (postfix (kind_at c.args.levels) (deeper c.args.levels) (tokens_of c.args.tokens.now)) c.in_err-place.field-0.0 c.loop-opened.invariant.so_far c.in-Some.ensures.front c.in_err-place.ensures.exact)

pub postfix-loop-opened-preserved : goal.postfix-loop-opened-preserved
postfix-loop-opened-preserved t c =
    let fewer : length c.in_ok-place.after.now < length c.loop-opened.rest.now = omega (arith, ap length c.in-Some.ensures.same, c.in_ok-place.ensures.shorter) in
    record {
      so_far = rw c.in_ok-left-2.ensures (chain_steps (before marks.OpenBracket) (enclosed (deeper c.args.levels) marks.OpenBracket marks.CloseBracket) item_of (tree_of c.loop-opened.left) tt (tree_of c.in_ok-place.place) c.loop-opened.rest.now (tokens_of c.in-Some.opened.now) c.in_ok-place.after.now (postfix (kind_at c.args.levels) (deeper c.args.levels) (tokens_of c.args.tokens.now)) c.loop-opened.invariant.so_far c.in-Some.ensures.front c.in_ok-place.ensures.exact fewer);
      shorter = omega (arith, c.loop-opened.invariant.shorter, fewer);
    }

pub postfix-returns-clause-exact : goal.postfix-returns-clause-exact
postfix-returns-clause-exact t c =
    chain_ends (before marks.OpenBracket) (enclosed (deeper c.args.levels) marks.OpenBracket marks.CloseBracket) item_of (tree_of c.loop-opened.left) c.loop-opened.rest.now (postfix (kind_at c.args.levels) (deeper c.args.levels) (tokens_of c.args.tokens.now)) c.loop-opened.invariant.so_far c.in_default.ensures.front
