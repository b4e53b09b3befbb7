-- How far a run is.
use Rattle.std.specs.Prelude.{ℕ, ◌+◌, ◌-◌, ◌^◌, min, Bool, true, false, if◌then◌else◌, List, [], ◌∷◌}
use Rattle.meaning.specs.Values.{Birth, Task}
use Rattle.event_log.specs.Entries.{Entry, In, Born, Accepted}
use Rattle.run_watch.specs.declared.counts.RunCounts.{RunCounts}

abbrev pub is_event : Entry → Bool
is_event (In e seat) = true
is_event _ = false

abbrev pub makes_a_task : Birth → Bool
makes_a_task (Task name arguments depth retries others) = true
makes_a_task _ = false

-- a task was born, not a put
abbrev pub is_task : Entry → Bool
is_task (Born object attempt birth) = makes_a_task birth
is_task _ = false

-- the owner of a task's object learned of its result
abbrev pub is_result : Entry → Bool
is_result (Accepted attempt) = true
is_result _ = false

abbrev pub events_in : List Entry → ℕ
events_in [] = 0
events_in (x ∷ rest) = (if is_event x then 1 else 0) + events_in rest

abbrev pub tasks_in : List Entry → ℕ
tasks_in [] = 0
tasks_in (x ∷ rest) = (if is_task x then 1 else 0) + tasks_in rest

abbrev pub results_in : List Entry → ℕ
results_in [] = 0
results_in (x ∷ rest) = (if is_result x then 1 else 0) + results_in rest

abbrev pub counts_of : List Entry → RunCounts
counts_of log = record { events = events_in log; tasks = tasks_in log; results = results_in log }

-- as far as there is room
abbrev pub bounded : ℕ → ℕ
bounded n = min n (2 ^ 64 - 1)

abbrev pub sum_of : RunCounts → RunCounts → RunCounts
sum_of a b = record { events = bounded (a.events + b.events); tasks = bounded (a.tasks + b.tasks); results = bounded (a.results + b.results) }
