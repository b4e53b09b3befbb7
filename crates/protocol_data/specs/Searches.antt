-- The index over an owner's objects: what a search has to look at, and what it may pass over.
use Rattle.std.specs.Prelude.{List, Option, Some, length, slice_get, true, ℕ, ◌≡◌, ◌≤◌, ◌⊎◌}
use Rattle.event_log.specs.Entries.{Attempt}
use Rattle.protocol_data.specs.declared.search.Search.{Search}
use Rattle.protocol_data.specs.declared.tables.Object.{Object}
use Rattle.protocol_data.specs.Bearers.{is_same_bearer}
use Rattle.protocol_data.specs.Unneeded.{AreNotKept, IsNotKept, IsSearched}

-- each object has a mark, and each that need not be looked at is kept
pub record IsSearchedBy (xs : List Object) (s : Search) : Type 0 where
  pub marked : length s.changed ≡ length xs
  pub kept : IsSearched xs s.seen s.changed s.bearer s.own_from

-- what stands at the place was never looked at, or is marked as changed
abbrev pub IsUnsure : Search → ℕ → Type 0
IsUnsure s i = (s.seen ≤ i) ⊎ (slice_get s.changed i ≡ Some true)

-- a search comes to that place: where the attempt that goes on is the one before, it passes over all that need not be looked at
abbrev pub PassesOver : Search → Option Attempt → ℕ → Type 0
PassesOver s going_on i = is_same_bearer s.bearer going_on ≡ true → IsUnsure s i

-- all was looked at, or the first that wasn't isn't kept; and none that is marked as changed is
pub record IsLookedOver (xs : List Object) (s : Search) : Type 0 where
  pub seen : (length xs ≤ s.seen) ⊎ IsNotKept xs s.seen s.bearer s.own_from
  pub changed : AreNotKept xs s.changed s.bearer s.own_from
