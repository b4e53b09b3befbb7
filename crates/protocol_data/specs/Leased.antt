-- The rows of a node's leases, and of each worker an entry that names the place of its row: 0 names none, and any other is one more than the place.
use Rattle.std.specs.Prelude.{Bool, List, None, Option, Some, [], false, if◌then◌else◌, nat_lt, slice_get, slice_set, suc, ℕ, ◌==◌, ◌∷◌, ◌≡◌, true}
use Rattle.std.specs.List.{list_any}
use Rattle.protocol_data.specs.Noted.{serial_or}
use Rattle.protocol_data.specs.declared.node.Lease.{Lease}

-- the leases of the rows that were not taken out
abbrev pub leases_of : List (Option Lease) → List Lease
leases_of [] = []
leases_of (None ∷ rows) = leases_of rows
leases_of (Some l ∷ rows) = l ∷ leases_of rows

-- the row is that worker's
abbrev pub is_row_of : ℕ → Option Lease → Bool
is_row_of w None = false
is_row_of w (Some l) = l.worker == w

-- the worker's number is low enough for an entry
abbrev pub has_entry : ℕ → Bool
has_entry w = nat_lt w 65536

-- the worker's entry
abbrev pub entry_of : List ℕ → ℕ → ℕ
entry_of places w = serial_or (slice_get places w)

-- no worker has two
abbrev pub AreApart : List Lease → Type 0
AreApart [] = Unit {0}
AreApart (l ∷ ls) = (list_any (λ m. m.worker == l.worker) ls ≡ false) × AreApart ls

-- behind so many others, each row that is there stands at the place that its worker's entry names
abbrev pub ArePlaced : List ℕ → ℕ → List (Option Lease) → Type 0
ArePlaced places n [] = Unit {0}
ArePlaced places n (None ∷ rows) = ArePlaced places (suc n) rows
ArePlaced places n (Some l ∷ rows) = (has_entry l.worker ≡ true → entry_of places l.worker ≡ suc n) × ArePlaced places (suc n) rows

-- the rows, with none at that place
abbrev pub blanked : Option ℕ → List (Option Lease) → List (Option Lease)
blanked None rows = rows
blanked (Some p) rows = slice_set rows p None

-- the entries, of which the worker's is n
abbrev pub named : List ℕ → ℕ → ℕ → List ℕ
named places w n = if has_entry w then slice_set places w n else places
