-- Copies on shelves, in order. Each shelf has bounds of the objects that its copies are of, which tell what surely isn't on it.
use Rattle.std.specs.Prelude.{Bool, List, None, Option, Some, [], not, slice_get, ℕ, ◌<◌, ◌&&◌, ◌++◌, ◌==◌, ◌≤◌, ◌∷◌, ◌≡◌}
use Rattle.std.specs.List.{filter}
use Rattle.meaning.specs.Births.{same_id}
use Rattle.meaning.specs.Values.{Id}
use Rattle.protocol_data.specs.declared.copies.Shelf.{Shelf}
use Rattle.protocol_data.specs.declared.spans.Span.{Span}
use Rattle.protocol_data.specs.declared.store.Copy.{Copy}

-- it is a copy of the object, and of the attempt of that number where one is named
abbrev pub is_sought : Id → Option ℕ → Copy → Bool
is_sought o None x = same_id x.object o
is_sought o (Some n) x = same_id x.object o && (x.number == n)

-- the copies but those that are sought
abbrev pub without : Id → Option ℕ → List Copy → List Copy
without o n xs = filter (λ x. not (is_sought o n x)) xs

-- the object is within the bounds
abbrev pub IsWithin : Span → Id → Type 0
IsWithin s o = (s.first_owner ≤ o.owner) × (o.owner ≤ s.last_owner) × (s.first_serial ≤ o.serial) × (o.serial ≤ s.last_serial)

-- each copy's object is within the bounds
abbrev pub AreWithin : Span → List Copy → Type 0
AreWithin s [] = Unit {0}
AreWithin s (x ∷ xs) = IsWithin s x.object × AreWithin s xs

-- the copies of each shelf are within its bounds
abbrev pub AreShelved : List Shelf → Type 0
AreShelved [] = Unit {0}
AreShelved (s ∷ rest) = AreWithin s.span s.rows × AreShelved rest

-- the copies of all shelves, in order
abbrev pub copies_on : List Shelf → List Copy
copies_on [] = []
copies_on (s ∷ rest) = s.rows ++ copies_on rest

-- none of them is on a shelf before the place
abbrev pub HaveNoneBefore : Id → Option ℕ → ℕ → List Shelf → Type 0
HaveNoneBefore o n place shelves = (i : ℕ) (s : Shelf) → i < place → slice_get shelves i ≡ Some s → without o n s.rows ≡ s.rows
