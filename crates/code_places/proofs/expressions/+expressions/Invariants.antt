use Rattle.std.proofs.Common.{◌≡◌, ◌++◌, drop}
use Rattle.code_places.specs.Places.{exprs_places}
use Rattle.code_places.proofs.expressions.+expressions.Given as goal

-- the places so far, and those that are left
abbrev pub invariant-add_exprs-loop-expr : goal.invariant-add_exprs-loop-expr
invariant-add_exprs-loop-expr l = l.places.items ++ exprs_places (drop l.expr-index l.exprs) ≡ l.fn.places.items ++ exprs_places l.exprs
