-- Marks of the workers that may be idle.
use Rattle.std.specs.Prelude.{Bool, List, None, Option, Some, [], false, nat_lt, not, slice_get, true, ℕ, ◌||◌, ◌∷◌, ◌≡◌}

-- the mark, which is down where there is none
abbrev pub is_up : Option Bool → Bool
is_up None = false
is_up (Some b) = b

-- the worker may be idle: it is marked, or of too high a number to have a mark
abbrev pub may_be_listed : List Bool → ℕ → Bool
may_be_listed marks w = not (nat_lt w 4096) || is_up (slice_get marks w)

-- each of these workers may be idle
abbrev pub AreNoted : List Bool → List ℕ → Type 0
AreNoted marks [] = Unit {0}
AreNoted marks (w ∷ ws) = (may_be_listed marks w ≡ true) × AreNoted marks ws
