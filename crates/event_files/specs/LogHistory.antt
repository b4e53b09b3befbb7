-- The recorded history of a run.
use Rattle.std.specs.Prelude.{◌≡◌, ◌<◌, ℕ, ◌+◌, Bool, if◌then◌else◌, List, [], ◌∷◌, Option, Some, None, slice_get}
use Rattle.event_log.specs.Entries.{Event, Claim, Entry, In}
use Rattle.event_log.specs.Events.{refused_next}
use Rattle.event_files.specs.declared.recorded.RecordedEvent.{RecordedEvent}

-- the number of the job that a claim gives behind so many others that were accepted, 0 where it is refused; and none of another event
abbrev pub given_by : Event → Bool → ℕ → Option ℕ
given_by (Claim w) refused claims = Some (if refused then 0 else claims + 1)
given_by e refused claims = None

-- how many claims were accepted behind the event
abbrev pub claims_behind : Event → Bool → ℕ → ℕ
claims_behind (Claim w) refused claims = if refused then claims else claims + 1
claims_behind e refused claims = claims

-- the events of a log behind so many accepted claims, oldest first, each with its seat and the number of the job that it gave
abbrev pub recorded_from : ℕ → List Entry → List RecordedEvent
recorded_from claims [] = []
recorded_from claims (In e seat ∷ rest) =
    record { seat = seat; event = e; given = given_by e (refused_next rest) claims } ∷ recorded_from (claims_behind e (refused_next rest) claims) rest
recorded_from claims (x ∷ rest) = recorded_from claims rest

-- the events of a log
abbrev pub recorded_in : List Entry → List RecordedEvent
recorded_in log = recorded_from 0 log

-- each event of the log came from one of the seats that a history may name, 0 to 8
abbrev pub AreSeated : List Entry → Type 0
AreSeated log = (k : ℕ) (e : Event) (seat : ℕ) → slice_get log k ≡ Some (In e seat) → seat < 9
