use Rattle.std.proofs.Common.{◌≡◌, ◌++◌, drop}
use Rattle.code_places.specs.Places.{marked_places}
use Rattle.code_places.proofs.functions.add_marked.Given as goal

-- the places so far, and those that are left
abbrev pub invariant-loop-parameter : goal.invariant-loop-parameter
invariant-loop-parameter l = l.places.items ++ marked_places (drop l.parameter-index l.parameters) ≡ l.fn.places.items ++ marked_places l.parameters
