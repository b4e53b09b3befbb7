-- The lists of events that are a run's history with one fault more.
use Rattle.std.specs.Prelude.{ℕ, zero, suc, ◌+◌, Bool, if◌then◌else◌, nat_lt, List, [], ◌∷◌, ◌++◌, Some, None, map}
use Rattle.std.specs.List.{flat_map}
use Rattle.meaning.specs.Values.{Id}
use Rattle.event_log.specs.Entries.{Event, Notice, Evict, Lose, Kill, KillNode, Join, Entry, In, Opened, Born}
use Rattle.event_log.specs.Events.{refused_next}
use Rattle.log_words.specs.of_made_objects.Made.{objects_made}
use Rattle.event_files.specs.declared.line.Line.{Line}
use Rattle.event_files.specs.declared.line.Line.TheVariants as lines
use Rattle.fault_lists.specs.declared.choice.FaultChoice.{FaultChoice}
use Rattle.faulted_history.specs.declared.fault_list.FaultList.{FaultList}
use Rattle.fault_lists.specs.declared.seen.Seen.{Seen}

abbrev pub event_in : Entry → List Event
event_in (In e seat) = e ∷ []
event_in _ = []

-- the events, and a settle behind them
abbrev pub event_lines : List Event → List Line
event_lines events = map lines.Event events ++ lines.Settle [] ∷ []

-- ---- which there are

abbrev pub alone : ℕ → Event → FaultList
alone place e = record { place = place; fault = e; notice = None }

-- main's worker, worker 1, is told of the death
abbrev pub told : ℕ → ℕ → FaultList
told place w = record { place = place; fault = Kill w; notice = Some (Notice 1 w) }

-- a worker dies
abbrev pub deaths : FaultChoice → ℕ → ℕ → List FaultList
deaths choice place w = (if choice.kill then alone place (Kill w) ∷ [] else []) ++ (if choice.told_kill then told place w ∷ [] else [])

-- each node dies; the nodes' numbers begin with 1
unfoldable pub node_deaths : ℕ → ℕ → List FaultList
node_deaths place zero = []
node_deaths place (suc n) = node_deaths place n ++ alone place (KillNode (suc n)) ∷ []

-- at each node, every copy of the object goes
unfoldable pub losses : ℕ → Id → ℕ → List FaultList
losses place o zero = []
losses place o (suc n) = losses place o n ++ alone place (Lose (suc n) o) ∷ []

-- at each node, the secondary copies of the object go
unfoldable pub evictions : ℕ → Id → ℕ → List FaultList
evictions place o zero = []
evictions place o (suc n) = evictions place o n ++ alone place (Evict (suc n) o) ∷ []

-- of the workers that were opened so far
unfoldable pub deaths_at : FaultChoice → ℕ → Seen → List FaultList
deaths_at choice place seen = flat_map (deaths choice place) seen.workers

-- of the nodes that there are
unfoldable pub node_deaths_at : FaultChoice → ℕ → Seen → List FaultList
node_deaths_at choice place seen = if choice.kill_node then node_deaths place seen.nodes else []

-- of the objects that were born so far, at the nodes that there are
unfoldable pub losses_at : FaultChoice → ℕ → Seen → List FaultList
losses_at choice place seen = if choice.lose then flat_map (λ o. losses place o seen.nodes) seen.objects else []

unfoldable pub evictions_at : FaultChoice → ℕ → Seen → List FaultList
evictions_at choice place seen = if choice.evict then flat_map (λ o. evictions place o seen.nodes) seen.objects else []

-- all of a place
abbrev pub faults_at : FaultChoice → ℕ → Seen → List FaultList
faults_at choice place seen =
    deaths_at choice place seen ++ (node_deaths_at choice place seen ++ (losses_at choice place seen ++ evictions_at choice place seen))

-- nothing but the nodes that there are at first
abbrev pub first_seen : ℕ → Seen
first_seen nodes = record { workers = []; objects = []; nodes = nodes }

-- one number more, up to the greatest that a node can have
abbrev pub one_more : ℕ → ℕ
one_more n = if nat_lt n 4294967295 then n + 1 else n

abbrev pub with_join : Event → Seen → Seen
with_join Join seen = record seen { nodes = one_more seen.nodes }
with_join e seen = seen

-- a node comes, unless its event is refused
abbrev pub with_event : Event → Bool → Seen → Seen
with_event e refused seen = if refused then seen else with_join e seen

-- a worker is opened, or the objects of a birth are born
abbrev pub with_entry : Entry → Seen → Seen
with_entry (Opened w n) seen = record seen { workers = seen.workers ++ w ∷ [] }
with_entry (Born o a birth) seen = record seen { objects = seen.objects ++ objects_made o birth }
with_entry x seen = seen

-- behind so many events, where that was seen: before each event those at its place, and those after the last
abbrev pub lists_from : FaultChoice → ℕ → Seen → List Entry → List FaultList
lists_from choice place seen [] = faults_at choice place seen
lists_from choice place seen (In e seat ∷ rest) =
    faults_at choice place seen ++ lists_from choice (place + 1) (with_event e (refused_next rest) seen) rest
lists_from choice place seen (x ∷ rest) = lists_from choice place (with_entry x seen) rest

-- of a run that began on so many nodes, by its log
abbrev pub fault_lists : FaultChoice → ℕ → List Entry → List FaultList
fault_lists choice nodes log = lists_from choice 0 (first_seen nodes) log
