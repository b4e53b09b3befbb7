-- Which of its objects an owner has to look at for a release. What is said of an object here is by its own row alone: the objects of one task
-- are released together, with the first.
use Rattle.std.specs.Prelude.{Bool, List, None, Option, Some, false, is_some, nat_lt, not, slice_get, true, ℕ, ◌&&◌, ◌<◌, ◌≡◌, ◌≤◌, ◌||◌}
use Rattle.std.specs.List.{list_any}
use Rattle.meaning.specs.Births.{same_id}
use Rattle.event_log.specs.Entries.{Attempt}
use Rattle.event_log.specs.Words.{same_attempt}
use Rattle.protocol_data.specs.declared.tables.ObjectSource.{ObjectSource}
use Rattle.protocol_data.specs.declared.tables.ObjectSource.TheVariants.{Beside, ByTask, WasPut}
use Rattle.protocol_data.specs.declared.tables.Object.{Object}
use Rattle.protocol_data.specs.declared.tables.Progress.{Progress}
use Rattle.protocol_data.specs.declared.tables.Progress.TheVariants.{AskedAt, AtRest, RunsOn}

-- an attempt is asked for, or runs
abbrev pub is_under_way : Progress → Bool
is_under_way AtRest = false
is_under_way (AskedAt t n) = true
is_under_way (RunsOn w n) = true

-- it is the first object of a task of which an attempt is asked for, or runs
abbrev pub is_awaited : ObjectSource → Bool
is_awaited WasPut = false
is_awaited (ByTask task) = is_under_way task.progress
is_awaited (Beside k) = false

-- one of the holders that were added was not removed
abbrev pub has_holder : Object → Bool
has_holder x = list_any (λ e. not (list_any (λ p. same_id p e) x.removed)) x.added

-- nothing needs the object any more, but perhaps the attempt that bore it
abbrev pub is_unneeded : Object → Bool
is_unneeded x = not x.is_released && (is_some x.settled || is_some x.fault) && not (is_awaited x.source) && not (has_holder x)

-- there is an attempt, and it bore the object
abbrev pub is_borne_by : Option Attempt → Object → Bool
is_borne_by None x = false
is_borne_by (Some a) x = same_attempt a x.bearer

-- the object isn't released while that attempt goes on
abbrev pub stays : Option Attempt → Object → Bool
stays going_on x = not (is_unneeded x) || is_borne_by going_on x

-- the object at place i isn't released while the bearer goes on, which bore none before the place `own`
abbrev pub is_kept : Option Attempt → ℕ → ℕ → Object → Bool
is_kept bearer own i x = not (is_unneeded x) || (not (nat_lt i own) && is_borne_by bearer x)

-- each object before `seen` is kept, but for those that are marked as changed
abbrev pub IsSearched : List Object → ℕ → List Bool → Option Attempt → ℕ → Type 0
IsSearched xs seen changed bearer own =
    (i : ℕ) (x : Object) → i < seen → slice_get changed i ≡ Some false → slice_get xs i ≡ Some x → is_kept bearer own i x ≡ true

-- each object from the one place to before the other is kept
abbrev pub AreKept : List Object → ℕ → ℕ → Option Attempt → ℕ → Type 0
AreKept xs from to bearer own = (i : ℕ) (x : Object) → from ≤ i → i < to → slice_get xs i ≡ Some x → is_kept bearer own i x ≡ true

-- no object from the one place to before the other is released while that attempt goes on
abbrev pub AllStay : List Object → ℕ → ℕ → Option Attempt → Type 0
AllStay xs from to going_on = (i : ℕ) (x : Object) → from ≤ i → i < to → slice_get xs i ≡ Some x → stays going_on x ≡ true

-- the object at the place, if one stands there, isn't kept
abbrev pub IsNotKept : List Object → ℕ → Option Attempt → ℕ → Type 0
IsNotKept xs i bearer own = (x : Object) → slice_get xs i ≡ Some x → is_kept bearer own i x ≡ false

-- none of the objects that are marked is kept
abbrev pub AreNotKept : List Object → List Bool → Option Attempt → ℕ → Type 0
AreNotKept xs changed bearer own = (i : ℕ) → slice_get changed i ≡ Some true → IsNotKept xs i bearer own

-- the object at the place, if one stands there, may be released while that attempt goes on
abbrev pub Goes : List Object → ℕ → Option Attempt → Type 0
Goes xs i going_on = (x : Object) → slice_get xs i ≡ Some x → stays going_on x ≡ false
