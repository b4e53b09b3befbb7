-- What a log says. Each word joins what the entries say one by one.
use Rattle.std.specs.Prelude.{ℕ, ◌+◌, ◌==◌, if◌then◌else◌, List, [], ◌∷◌, Option, slice_get}
use Rattle.std.specs.List.{flat_map}
use Rattle.script_laws.specs.of_meaning.Values.{Value, Outcome, results_of, Id, main_birth}
use Rattle.script_laws.specs.of_meaning.Births.{Bearing, same_id, is_made_by}
use Rattle.event_log.specs.Entries.{Attempt, Fault, Event, Entry, In, Opened, Begun, Born, Got, Printed, Ended, Accepted, Faulted, Resolved}
use Rattle.event_log.specs.Entries.{Released, main_object, main_attempt}
unfoldable pub use Rattle.log_entries.specs.of_ids.Attempts.{same_attempt}

abbrev pub attempt : Id → ℕ → Attempt
attempt o number = record { object = o; number = number }

-- ---- births

abbrev pub main_bearing : Bearing
main_bearing = record { object = main_object; birth = main_birth }

abbrev pub born_in : Entry → List Bearing
born_in (Born o a b) = record { object = o; birth = b } ∷ []
born_in _ = []

-- the births of the log in order, main's first
abbrev pub births : List Entry → List Bearing
births log = main_bearing ∷ flat_map born_in log

-- the serial of the worker's next object: main's own object is number 0 of worker 1, and other workers begin with 1
abbrev pub next_serial : ℕ → List Bearing → ℕ
next_serial w [] = if w == 1 then 0 else 1
next_serial w (x ∷ xs) = (if x.object.owner == w then results_of x.birth else 0) + next_serial w xs

-- what the attempt bore
abbrev pub own_in : Attempt → Entry → List Bearing
own_in a (Born o b birth) = if same_attempt b a then record { object = o; birth = birth } ∷ [] else []
own_in a _ = []

abbrev pub own_births : Attempt → List Entry → List Bearing
own_births a log = flat_map (own_in a) log

-- the first object of a birth, and the attempt that bore it
pub record Lineage : Type 0 where
  pub object : Id
  pub bearer : Attempt

abbrev pub line_in : Entry → List Lineage
line_in (Born o a b) = record { object = o; bearer = a } ∷ []
line_in _ = []

abbrev pub lines : List Entry → List Lineage
lines log = flat_map line_in log

abbrev pub bearer_in : Id → Entry → List Attempt
bearer_in o (Born p a b) = if is_made_by (record { object = p; birth = b }) o then a ∷ [] else []
bearer_in o _ = []

-- the attempt that bore the object
abbrev pub bearers_of : Id → List Entry → List Attempt
bearers_of o log = flat_map (bearer_in o) log

-- ---- attempts

abbrev pub run_in : Id → Entry → List ℕ
run_in o (Begun a w) = if same_id a.object o then w ∷ [] else []
run_in o _ = []

-- the workers on which the object's attempts were begun, by number
abbrev pub runs_of : Id → List Entry → List ℕ
runs_of o log = flat_map (run_in o) log

-- the attempt's worker
abbrev pub worker_of : Attempt → List Entry → Option ℕ
worker_of a log = slice_get (runs_of a.object log) a.number

-- an attempt, and its worker
pub record Running : Type 0 where
  pub attempt : Attempt
  pub worker : ℕ

abbrev pub begun_in : Entry → List Running
begun_in (Begun a w) = record { attempt = a; worker = w } ∷ []
begun_in _ = []

abbrev pub begun : List Entry → List Running
begun log = flat_map begun_in log

-- the contents that the attempt got
abbrev pub got_in : Attempt → Entry → List Outcome
got_in a (Got b y c) = if same_attempt b a then c ∷ [] else []
got_in a _ = []

abbrev pub answers_of : Attempt → List Entry → List Outcome
answers_of a log = flat_map (got_in a) log

-- what it printed, which only main does
abbrev pub printed_in : Attempt → Entry → List Value
printed_in a (Printed v) = if same_attempt main_attempt a then v ∷ [] else []
printed_in a _ = []

abbrev pub printed_by : Attempt → List Entry → List Value
printed_by a log = flat_map (printed_in a) log

-- the contents with which it ended, one a result
abbrev pub ended_in : Attempt → Entry → List (List Outcome)
ended_in a (Ended b cs) = if same_attempt b a then cs ∷ [] else []
ended_in a _ = []

abbrev pub ends_of : Attempt → List Entry → List (List Outcome)
ends_of a log = flat_map (ended_in a) log

-- an attempt, and the contents with which it ended
pub record Ending : Type 0 where
  pub attempt : Attempt
  pub contents : List Outcome

abbrev pub ending_in : Entry → List Ending
ending_in (Ended a cs) = record { attempt = a; contents = cs } ∷ []
ending_in _ = []

abbrev pub endings : List Entry → List Ending
endings log = flat_map ending_in log

-- a fault in place of an answer: the object that was got, and why there was none
pub record Lack : Type 0 where
  pub object : Id
  pub fault : Fault

abbrev pub faulted_in : Attempt → Entry → List Lack
faulted_in a (Faulted b y f) = if same_attempt b a then record { object = y; fault = f } ∷ [] else []
faulted_in a _ = []

abbrev pub faults_of : Attempt → List Entry → List Lack
faults_of a log = flat_map (faulted_in a) log

-- what it received for a get: a content, or a fault in its place
pub data Received : Type 0 where
  Content : (c : Outcome) → Received
  Lacking : (x : Lack) → Received

abbrev pub answered_in : Attempt → Entry → List Received
answered_in a (Got b y c) = if same_attempt b a then Content c ∷ [] else []
answered_in a (Faulted b y f) = if same_attempt b a then Lacking (record { object = y; fault = f }) ∷ [] else []
answered_in a _ = []

abbrev pub answered_of : Attempt → List Entry → List Received
answered_of a log = flat_map (answered_in a) log

-- the acceptances of the attempt
abbrev pub accepted_in : Attempt → Entry → List Attempt
accepted_in a (Accepted b) = if same_attempt b a then b ∷ [] else []
accepted_in a _ = []

abbrev pub accepts_of : Attempt → List Entry → List Attempt
accepts_of a log = flat_map (accepted_in a) log

-- ---- objects

-- the faults to which the object was resolved
abbrev pub resolved_in : Id → Entry → List Fault
resolved_in o (Resolved p f) = if same_id p o then f ∷ [] else []
resolved_in o _ = []

abbrev pub resolves_of : Id → List Entry → List Fault
resolves_of o log = flat_map (resolved_in o) log

abbrev pub released_in : Id → Entry → List Id
released_in o (Released p) = if same_id p o then p ∷ [] else []
released_in o _ = []

abbrev pub releases_of : Id → List Entry → List Id
releases_of o log = flat_map (released_in o) log

-- ---- workers

-- the nodes of the workers, by number from worker 1 on
abbrev pub opened_in : Entry → List ℕ
opened_in (Opened w n) = n ∷ []
opened_in _ = []

abbrev pub opened : List Entry → List ℕ
opened log = flat_map opened_in log

-- ---- events

-- the events, refused ones among them
abbrev pub came_in : Entry → List Event
came_in (In e seat) = e ∷ []
came_in _ = []

abbrev pub events : List Entry → List Event
events log = flat_map came_in log
