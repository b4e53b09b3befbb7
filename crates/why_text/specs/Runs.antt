-- An object, and what a log says of the attempts of its task.
use Rattle.std.specs.Prelude.{ℕ, Bool, false, not, ◌&&◌, ◌||◌, ◌==◌, if◌then◌else◌, List, [], ◌∷◌, Option, Some, None, map}
use Rattle.std.specs.List.{flat_map, list_any}
use Rattle.meaning.specs.Values.{Id}
use Rattle.meaning.specs.Births.{objects_at, same_id}
use Rattle.event_log.specs.Entries.{Attempt, Kill, Entry, In, Begun, Ended, Faulted}
use Rattle.event_log.specs.Words.{births, opened, same_attempt}
use Rattle.event_log.specs.Events.{from_one, refused_next}
use Rattle.why_text.specs.declared.runs.Run.{Run as CodeRun}
use Rattle.why_text.specs.declared.runs.Subject.{Subject as CodeSubject}

-- an attempt, its worker and the node of that; whether the log never says that it ended, and whether its worker was killed for itself
pub record Run : Type 0 where
  pub attempt : Attempt
  pub worker : ℕ
  pub node : Option ℕ
  pub is_open : Bool
  pub was_killed : Bool

-- the attempt ends with the entry
unfoldable pub is_end_of : Attempt → Entry → Bool
is_end_of a (Ended b cs) = same_attempt b a
is_end_of a (Faulted b y f) = same_attempt b a
is_end_of a _ = false

unfoldable pub is_kill : ℕ → Entry → Bool
is_kill w (In (Kill v) seat) = v == w
is_kill w _ = false

-- an event that kills the worker was taken
abbrev pub is_killed_in : ℕ → List Entry → Bool
is_killed_in w [] = false
is_killed_in w (x ∷ rest) = (is_kill w x && not (refused_next rest)) || is_killed_in w rest

abbrev pub run_of : List Entry → Attempt → ℕ → Run
run_of log a w = record {
  attempt = a;
  worker = w;
  node = from_one (opened log) w;
  is_open = not (list_any (is_end_of a) log);
  was_killed = is_killed_in w log;
}

abbrev pub run_in : List Entry → Id → Entry → List Run
run_in log task (Begun a w) = if same_id a.object task then run_of log a w ∷ [] else []
run_in log task _ = []

-- the attempts that are named by the object, in the order in which they were begun
abbrev pub runs_of : List Entry → Id → List Run
runs_of log task = flat_map (run_in log task) log

-- an object, the one by which the attempts of its task are named, the objects of that task, the node of their owner, and the attempts
pub record Subject : Type 0 where
  pub object : Id
  pub task : Id
  pub results : List Id
  pub home : Option ℕ
  pub runs : List Run

abbrev pub subject_of : List Entry → Id → Id → Subject
subject_of log o task = record {
  object = o;
  task = task;
  results = objects_at (births log) task;
  home = from_one (opened log) o.owner;
  runs = runs_of log task;
}

abbrev pub is_node : ℕ → Option ℕ → Bool
is_node n None = false
is_node n (Some m) = m == n

-- ---- of the code

abbrev pub run_seen : CodeRun → Run
run_seen r = record { attempt = r.attempt; worker = r.worker; node = r.node; is_open = r.is_open; was_killed = r.was_killed }

abbrev pub seen_of : CodeSubject → Subject
seen_of s = record { object = s.object; task = s.task; results = s.results.items; home = s.home; runs = map run_seen s.runs.items }
