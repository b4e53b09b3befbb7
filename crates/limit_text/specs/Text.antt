-- Which limit a run met, in which event, and what to do.
use Rattle.std.specs.Prelude.{ℕ, Bool, true, false, ◌==◌, if◌then◌else◌, List, [], ◌∷◌, ◌++◌, codes, length, Option, Some, None}
use Rattle.event_log.specs.Entries.{Entry, Event, Join, Limit, Refused}
use Rattle.event_log.specs.Words.{opened}
use Rattle.why_text.specs.Moments.{Moment, first_moment, moment_after, when_text}

abbrev pub is_limit : Entry → Bool
is_limit (Refused Limit) = true
is_limit _ = false

-- the last of the entries refuses an event for a limit; `so` says that of the one before them
abbrev pub ends_at_limit : Bool → List Entry → Bool
ends_at_limit so [] = so
ends_at_limit so (x ∷ rest) = ends_at_limit (is_limit x) rest

-- the moment behind the entries, where `m` is the one before them, and `lines` are the lines of the events
abbrev pub moment_behind : List ℕ → Moment → List Entry → Moment
moment_behind lines m [] = m
moment_behind lines m (x ∷ rest) = moment_behind lines (moment_after lines m x) rest

unfoldable pub nodes_head : List ℕ
nodes_head = codes "limit: 64 nodes in all, dead ones too: one more would have joined"

unfoldable pub nodes_remedy : List ℕ
nodes_remedy = codes "\nwhat to do: let fewer nodes join\n"

unfoldable pub workers_head : List ℕ
workers_head = codes "limit: 1,024 workers in all, dead ones too: one more would have been opened"

unfoldable pub workers_remedy : List ℕ
workers_remedy = codes "\nwhat to do: get some results before the next tasks are begun, or give each task more to do\n"

unfoldable pub objects_head : List ℕ
objects_head = codes "limit: 1,000,000 objects in all, released ones too: more would have been made"

unfoldable pub objects_remedy : List ℕ
objects_remedy = codes "\nwhat to do: give each task more to do, so that there are fewer, and put fewer values\n"

abbrev pub nodes_text : Moment → List ℕ
nodes_text m = nodes_head ++ (when_text m ++ nodes_remedy)

abbrev pub workers_text : Moment → List ℕ
workers_text m = workers_head ++ (when_text m ++ workers_remedy)

abbrev pub objects_text : Moment → List ℕ
objects_text m = objects_head ++ (when_text m ++ objects_remedy)

-- any event but a join opens workers and makes objects: of workers there were too many where there are 1,024
abbrev pub others_text : Moment → ℕ → List ℕ
others_text m workers = if workers == 1024 then workers_text m else objects_text m

abbrev pub met_text : Moment → ℕ → Option Event → List ℕ
met_text m workers None = []
met_text m workers (Some Join) = nodes_text m
met_text m workers (Some e) = others_text m workers

-- the last step was in event 100000 (deliver 9, line 3)
unfoldable pub step_text : Moment → List ℕ
step_text m = codes "the last step was" ++ (when_text m ++ codes "\n")

abbrev pub stop_text : Moment → ℕ → Bool → List ℕ
stop_text m workers limited = if limited then met_text m workers m.event else step_text m

-- where a run stopped: which limit its last event would have passed, if it was refused for one; else which event was the last
unfoldable pub limit_text : List Entry → List ℕ → List ℕ
limit_text log lines = stop_text (moment_behind lines first_moment log) (length (opened log)) (ends_at_limit false log)
