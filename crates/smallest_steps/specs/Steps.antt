-- What is known where a smallest step is made.
use Rattle.std.specs.Prelude.{◌≡◌, ◌⊎◌, ℕ, Option, Some}
use Rattle.meaning.specs.Values.{Birth, Id}
use Rattle.step_laws.specs.of_protocol.Steps.{WorkerContext}
use Rattle.step_laws.specs.of_protocol.Asking.{next_attempt}
use Rattle.step_laws.specs.of_protocol.Tables.{Fetching, Object, OwnTask, Execution, RunsOn, Waits, new_task}

-- a change of an object that leaves what makes it, who waits for it, and whether it has a content or a fault
abbrev pub LeavesAlike : (Object → Object) → Type 0
LeavesAlike f = (x : Object) → ((f x).source ≡ x.source) × ((f x).askers ≡ x.askers) × ((f x).settled ≡ x.settled) × ((f x).fault ≡ x.fault)

-- the next attempt of a task, or the first one of a new task
abbrev pub IsNextOf : OwnTask → OwnTask → Type 0
IsNextOf old task = (task ≡ next_attempt old) ⊎ ((spec : Birth) × (task ≡ new_task spec) × (old ≡ new_task spec))

-- the task's present attempt runs
abbrev pub IsRunning : OwnTask → Type 0
IsRunning task = (w n : ℕ) × (task.progress ≡ RunsOn w n)

-- the worker's attempt waits for the object
pub record Needs (h : WorkerContext) (y : Id) : Type 0 where
  pub run : Execution
  pub fetching : Option Fetching
  pub at : h.worker.run ≡ Some run
  pub waits : run.phase ≡ Waits y fetching
