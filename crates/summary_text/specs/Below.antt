-- What is told of the entries of a log, one after the other.
use Rattle.std.specs.Prelude.{List, [], suc, zero, ℕ, ◌++◌}

-- of those at the places below that number
unfoldable pub below : (ℕ → List ℕ) → ℕ → List ℕ
below told zero = []
below told (suc n) = below told n ++ told n
