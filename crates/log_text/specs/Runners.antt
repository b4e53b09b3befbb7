-- The workers that ran attempts of an object's task, and their nodes.
use Rattle.std.specs.Prelude.{ℕ, List, [], ◌∷◌, Option, Some, None}
use Rattle.std.specs.List.{flat_map}
use Rattle.meaning.specs.Births.{objects_at}
use Rattle.meaning.specs.Values.{Id}
use Rattle.log_words.specs.of_event_log.Entries.{Entry}
use Rattle.log_words.specs.of_event_log.Words.{births, runs_of, opened}
use Rattle.log_words.specs.of_event_log.Events.{from_one}
use Rattle.log_words.specs.Tasks.{task_of}

abbrev pub one : Option ℕ → List ℕ
one None = []
one (Some n) = n ∷ []

-- the node of each worker of these, the nodes of all workers being given by number
abbrev pub nodes_in : List ℕ → List ℕ → List ℕ
nodes_in nodes workers = flat_map (λ w. one (from_one nodes w)) workers

-- an object, the one by which the attempts of its task are named, the objects of that task, and the workers and nodes on which the attempts ran
pub record Subject : Type 0 where
  pub object : Id
  pub task : Id
  pub results : List Id
  pub workers : List ℕ
  pub nodes : List ℕ

abbrev pub subject_from : Id → Id → List Entry → Subject
subject_from o task log = record {
  object = o;
  task = task;
  results = objects_at (births log) task;
  workers = runs_of task log;
  nodes = nodes_in (opened log) (runs_of task log);
}

abbrev pub subject_of : Id → List Entry → Subject
subject_of o log = subject_from o (task_of (births log) o) log
