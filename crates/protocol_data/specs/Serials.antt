-- The serials under which a worker's own objects are kept.
use Rattle.std.specs.Prelude.{List, Some, slice_get, ℕ, ◌+◌, ◌≡◌}

-- that at place i is 1 + i: they are 1, 2, 3 .. in birth order
abbrev pub AreSerials : List ℕ → Type 0
AreSerials ks = (i k : ℕ) → slice_get ks i ≡ Some k → k ≡ 1 + i
