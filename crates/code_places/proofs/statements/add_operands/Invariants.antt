use Rattle.std.proofs.Common.{◌≡◌, ◌++◌, drop}
use Rattle.code_places.specs.Places.{operands_places}
use Rattle.code_places.proofs.statements.add_operands.Given as goal

-- the places so far, and those that are left
abbrev pub invariant-loop-expr : goal.invariant-loop-expr
invariant-loop-expr l = l.places.items ++ operands_places (drop l.expr-index l.exprs) ≡ l.fn.places.items ++ operands_places l.exprs
