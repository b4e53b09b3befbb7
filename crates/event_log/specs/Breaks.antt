-- What breaks an attempt, and what causes a fault.
use Rattle.std.specs.Prelude.{◌≡◌, ℕ, zero, suc, ◌+◌, ◌≤◌, Bool, true, false, ◌&&◌, ◌||◌, if◌then◌else◌, List, [], ◌∷◌, ◌++◌, length, Option, Some}
use Rattle.std.specs.Prelude.{None, slice_get, not}
use Rattle.std.specs.List.{list_any}
use Rattle.script_laws.specs.of_meaning.Values.{Value, Argument, Put, Task, Id}
use Rattle.script_laws.specs.of_meaning.Births.{birth_at, Part, part_at, objects_at}
use Rattle.event_log.specs.Entries.{Attempt, FaultKind, OwnerDied, PutLost, RetriesUsed, Fault, Event, Entry, In, Ended}
use Rattle.event_log.specs.Words.{same_attempt, attempt, births, runs_of, worker_of, accepts_of}
use Rattle.event_log.specs.Events.{refused_next, kills, kills_node, loses, node_of, is_killed, was_lost}

-- it stands somewhere in the list
abbrev pub Among : {X : Type 0} → X → List X → Type 0
Among x xs = (k : ℕ) × (slice_get xs k ≡ Some x)

-- the entry is the attempt's end
abbrev pub is_end_of : Attempt → Entry → Bool
is_end_of a (Ended b cs) = same_attempt b a
is_end_of a _ = false

-- an attempt as one that can break: its worker and node, whether it was accepted, and the objects that it makes
pub record Standing : Type 0 where
  pub attempt : Attempt
  pub worker : ℕ
  pub node : ℕ
  pub is_accepted : Bool
  pub objects : List Id

-- a kill of its worker, unless it was accepted; or, where it has ended, a kill of its node or a loss of one of its objects there
abbrev pub breaks : Standing → Bool → Event → Bool
breaks s has_ended e = (kills s.worker s.node e && not s.is_accepted) || (has_ended && (kills_node s.node e || list_any (λ o. loses s.node o e) s.objects))

-- the places of the accepted events that break it, the first entry's place being k
unfoldable pub breaks_from : Standing → ℕ → Bool → List Entry → List ℕ
breaks_from s k has_ended [] = []
breaks_from s k has_ended (In e seat ∷ rest) = (if not (refused_next rest) && breaks s has_ended e then k ∷ [] else []) ++ breaks_from s (k + 1) has_ended rest
breaks_from s k has_ended (x ∷ rest) = breaks_from s (k + 1) (has_ended || is_end_of s.attempt x) rest

abbrev pub at_worker : {X : Type 0} → Option ℕ → List X → (ℕ → List X) → List X
at_worker None nowhere here = nowhere
at_worker (Some w) nowhere here = here w

abbrev pub is_some : {X : Type 0} → List X → Bool
is_some [] = false
is_some (x ∷ xs) = true

-- the places of the events that break the attempt, by all that the log says
unfoldable pub breaks_of : Attempt → List Entry → List ℕ
breaks_of a log = at_worker (worker_of a log) [] (λ w. at_worker (node_of w log) [] (λ n. breaks_from
    (record { attempt = a; worker = w; node = n; is_accepted = is_some (accepts_of a log); objects = objects_at (births log) a.object }) 0 false log))

abbrev pub Broken : List Entry → Attempt → Type 0
Broken log a = (place : ℕ) × Among place (breaks_of a log)

-- the attempts of the task with this first object below the number are broken
abbrev pub AllBroken : List Entry → Id → ℕ → Type 0
AllBroken log o zero = Unit {0}
AllBroken log o (suc number) = AllBroken log o number × Broken log (attempt o number)

-- from that attempt and place on, the task's attempts are broken at these places, each behind the one before
abbrev pub BreakRising : List Entry → Id → ℕ → ℕ → List ℕ → Type 0
BreakRising log o number from [] = Unit {0}
BreakRising log o number from (place ∷ places) =
    (from ≤ place) × Among place (breaks_of (attempt o number) log) × BreakRising log o (number + 1) (place + 1) places

-- it was put, and then a loss of it on its owner's node was accepted
pub record PutIsLost (log : List Entry) (z : Id) : Type 0 where
  pub before : List Entry
  pub after : List Entry
  pub parts : log ≡ before ++ after
  pub value : Value
  pub put : birth_at (births before) z ≡ Some (Put value)
  pub node : ℕ
  pub place : node_of z.owner log ≡ Some node
  pub lost : was_lost node z after ≡ true

-- all runs that its task is allowed were begun, and are broken by events at rising places
pub record RetriesAreUsed (log : List Entry) (z : Id) : Type 0 where
  pub part : Part
  pub born : part_at (births log) z ≡ Some part
  pub function : List ℕ
  pub args : List Argument
  pub depth : ℕ
  pub retries : ℕ
  pub others : ℕ
  pub task : birth_at (births log) part.born.object ≡ Some (Task function args depth retries others)
  pub begun : length (runs_of part.born.object log) ≡ retries + 1
  pub places : List ℕ
  pub all : length places ≡ retries + 1
  pub broken : BreakRising log part.born.object 0 0 places

-- what caused the fault
abbrev pub CauseOf : FaultKind → List Entry → Id → Type 0
CauseOf OwnerDied log z = is_killed z.owner log ≡ true
CauseOf PutLost log z = PutIsLost log z
CauseOf RetriesUsed log z = RetriesAreUsed log z

abbrev pub Cause : List Entry → Fault → Type 0
Cause log f = CauseOf f.kind log f.object
