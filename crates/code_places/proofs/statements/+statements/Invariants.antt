use Rattle.std.proofs.Common.{◌≡◌, ◌++◌, drop}
use Rattle.code_places.specs.Places.{statements_places}
use Rattle.code_places.proofs.statements.+statements.Given as goal

-- the places so far, and those that are left
abbrev pub invariant-add_statements-loop-statement : goal.invariant-add_statements-loop-statement
invariant-add_statements-loop-statement l =
    l.places.items ++ statements_places (drop l.statement-index l.statements) ≡ l.fn.places.items ++ statements_places l.statements
