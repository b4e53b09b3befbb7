use Rattle.std.proofs.Common.{◌≡◌, drop}
use Rattle.code_places.specs.Places.{last_span}
use Rattle.code_places.proofs.statements.last_span.Given as goal

-- the last of those that are left is the last of all
abbrev pub invariant-loop-expr : goal.invariant-loop-expr
invariant-loop-expr l = last_span l.last (drop l.expr-index l.others) ≡ last_span l.fn.first l.others
