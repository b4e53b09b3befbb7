use Rattle.std.proofs.Common.{◌≡◌, ◌++◌, drop}
use Rattle.code_places.specs.Places.{program_places}
use Rattle.code_places.proofs.functions.places.Given as goal

-- the places so far, and those that are left
abbrev pub invariant-loop-function : goal.invariant-loop-function
invariant-loop-function l = l.places.items ++ program_places (drop l.function-index l.function-items) ≡ program_places l.function-items
