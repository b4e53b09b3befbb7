-- Which objects a search for what can be released passes over.
use Rattle.std.specs.Prelude.{Bool, None, Option, Some, false, if◌then◌else◌, length, nat_lt, slice_get, suc, ℕ, ◌&&◌, ◌<◌, ◌≡◌, ◌≤◌, ◌⊎◌}
use Rattle.event_log.specs.Entries.{Attempt}
use Rattle.protocol.specs.Releases.{going_with, may_release}
use Rattle.protocol.specs.Tables.{Object, Execution, Worker}

-- the attempt that goes on, if one does
abbrev pub attempt_going_on : Option Execution → Option Attempt
attempt_going_on None = None
attempt_going_on (Some run) = if run.is_over then None else Some run.attempt

-- the object may be released, and some object goes with it
abbrev pub goes : Worker → ℕ → Object → Bool
goes w k x = may_release w k x && nat_lt 0 (going_with x.source)

-- so of the own object of that serial, if there is one
abbrev pub goes_at : Worker → ℕ → Option Object → Bool
goes_at w k None = false
goes_at w k (Some x) = goes w k x

-- no object from the one place to before the other is released: it may not be, or goes with the first result of its task
abbrev pub NoneGoes : Worker → ℕ → ℕ → Type 0
NoneGoes w from to =
    (i : ℕ) (x : Object) → from ≤ i → i < to → slice_get w.objects i ≡ Some x → (may_release w (suc i) x ≡ false) ⊎ (going_with x.source ≡ 0)

-- some object may be released, for it isn't so that none may
abbrev pub SomeGoes : Worker → Type 0
SomeGoes w = NoneGoes w 0 (length w.objects) → ⊥
