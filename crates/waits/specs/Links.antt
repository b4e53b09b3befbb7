-- For what an attempt waits, and what keeps that from coming, link by link.
use Rattle.std.specs.Prelude.{Bool, List, None, Option, Some, [], if◌then◌else◌, suc, zero, ℕ, ◌==◌, ◌∷◌}
use Rattle.std.specs.Option.{option_map}
use Rattle.meaning.specs.Values.{Id}
use Rattle.event_log.specs.Entries.{Attempt}
use Rattle.event_log.specs.Events.{from_one}
use Rattle.event_log.specs.Words.{attempt}
use Rattle.protocol_data.specs.declared.tables.Fetching.{Fetching}
use Rattle.protocol_data.specs.declared.tables.Holding.{Holding}
use Rattle.protocol_data.specs.declared.tables.ObjectSource.{ObjectSource}
use Rattle.protocol_data.specs.declared.tables.ObjectSource.TheVariants.{Beside, ByTask, WasPut}
use Rattle.protocol_data.specs.declared.tables.Object.{Object}
use Rattle.protocol_data.specs.declared.tables.Phase.{Phase}
use Rattle.protocol_data.specs.declared.tables.Phase.TheVariants.{HasEnded, HasFaulted, Out, Ready, Waits}
use Rattle.protocol_data.specs.declared.tables.Progress.{Progress}
use Rattle.protocol_data.specs.declared.tables.Progress.TheVariants.{AskedAt, AtRest, RunsOn}
use Rattle.protocol_data.specs.declared.tables.Execution.{Execution}
use Rattle.protocol_data.specs.declared.tables.Worker.{Worker}
use Rattle.protocol_data.specs.declared.cluster_state.ClusterState.{ClusterState}
use Rattle.waits.specs.declared.link.Link.{Link}
use Rattle.waits.specs.declared.link.Link.TheVariants.{AskedFor, CanGoOn, FetchesFor, HasJob, HasStopped, HoldsBack, IsDead, KeepsSlot, LacksSlot}
use Rattle.waits.specs.declared.link.Link.TheVariants.{NodeUntold, Resting, RunsAt, UnderWay, Untold, WaitsFor, WasReleased}
use Rattle.waits.specs.declared.topics.Topic.TheVariants.{AnswerTo, AskFor, EndOf, FetchOf, ForLent, HoldAckOf, HoldOf, PushOf, ReplyTo, SoughtBy}
use Rattle.waits.specs.Tables.{first_hold, holders_at, is_live, is_live_node, is_one, is_queued, node_at, run_of, runs, worker_at}
use Rattle.waits.specs.Topics.{sent}

-- the message is under way, else the other
abbrev pub under_way_or : Option ℕ → Link → Link
under_way_or None other = other
under_way_or (Some k) other = UnderWay k

-- ---- a worker's attempt

-- one that waits, where a Fetch may be under way
abbrev pub waiting_link : ℕ → Attempt → Id → Option Fetching → Link
waiting_link w a o None = WaitsFor w a o
waiting_link w a o (Some f) = FetchesFor w a o f.node

-- a ready attempt, with a slot or without
abbrev pub ready_link : ℕ → ℕ → Bool → Link
ready_link w n has_slot = if has_slot then CanGoOn w else LacksSlot w n

abbrev pub phase_link : ClusterState → ℕ → ℕ → Attempt → Phase → Link
phase_link c w n a Ready = ready_link w n (is_one w (holders_at c n))
phase_link c w n a (Out j) = HasJob w j
phase_link c w n a (Waits o f) = waiting_link w a o f
phase_link c w n a (HasEnded xs) = HasStopped w a
phase_link c w n a (HasFaulted f) = HasStopped w a

abbrev pub run_link : ClusterState → ℕ → ℕ → Option Execution → Link
run_link c w n None = Resting w
run_link c w n (Some r) = phase_link c w n r.attempt r.phase

abbrev pub worker_link_of : ClusterState → ℕ → Option Worker → Link
worker_link_of c w None = IsDead w
worker_link_of c w (Some x) = if x.is_live then run_link c w x.node x.run else IsDead w

-- what keeps the worker's attempt from going on
unfoldable pub worker_link : ClusterState → ℕ → Link
worker_link c w = worker_link_of c w (worker_at c w)

-- ---- an object for which a worker w waits, or worker u for it

-- how far its owner is with its present attempt
abbrev pub progress_link : ℕ → Attempt → Progress → Link
progress_link w a AtRest = Resting w
progress_link w a (AskedAt t n) = AskedFor a t n
progress_link w a (RunsOn v n) = RunsAt a v n

-- so of the task that stands with an object
abbrev pub task_link : ℕ → Id → ObjectSource → Link
task_link w o WasPut = Resting w
task_link w o (ByTask task) = progress_link w (attempt o task.number) task.progress
task_link w o (Beside k) = Resting w

-- so of the task that stands with the object of its owner, if there is one
abbrev pub first_link : ℕ → Id → Option Object → Link
first_link w o None = Resting w
first_link w o (Some x) = task_link w o x.source

-- the object, in the table of its owner
abbrev pub object_of : Id → Option Worker → Option Object
object_of o None = None
object_of o (Some x) = from_one x.objects o.serial

-- the first object of the task that makes it too
abbrev pub first_of : Id → ℕ → Id
first_of o k = record { owner = o.owner; serial = k }

abbrev pub source_link : ClusterState → ℕ → Id → ObjectSource → Link
source_link c w o WasPut = task_link w o WasPut
source_link c w o (ByTask task) = task_link w o (ByTask task)
source_link c w o (Beside k) = first_link w (first_of o k) (object_of (first_of o k) (worker_at c o.owner))

abbrev pub made_link : ClusterState → ℕ → Id → Object → Link
made_link c w o x = if x.is_released then WasReleased o else source_link c w o x.source

abbrev pub own_link : ClusterState → ℕ → Id → Option Object → Link
own_link c w o None = Resting w
own_link c w o (Some x) = made_link c w o x

-- a worker that its owner doesn't know to wait for it
abbrev pub unknown_link : ℕ → Id → Object → Link
unknown_link w o x = if x.is_released then WasReleased o else Resting w

abbrev pub asker_link : ClusterState → ℕ → Id → Object → Bool → Link
asker_link c w o x asked = if asked then made_link c w o x else under_way_or (sent c (SoughtBy w o)) (unknown_link w o x)

abbrev pub foreign_link : ClusterState → ℕ → Id → Option Object → Link
foreign_link c w o None = Resting w
foreign_link c w o (Some x) = asker_link c w o x (is_one w x.askers)

abbrev pub owner_link : ClusterState → ℕ → Id → Bool → Link
owner_link c w o lives = if lives then foreign_link c w o (object_of o (worker_at c o.owner)) else Untold w o.owner

unfoldable pub asked_link : ClusterState → ℕ → Id → Link
asked_link c w o =
    if o.owner == w then own_link c w o (object_of o (worker_at c w)) else owner_link c w o (is_live (worker_at c o.owner))

-- a worker that waits for an object
unfoldable pub wait_link : ClusterState → ℕ → Id → Link
wait_link c w o = under_way_or (sent c (AnswerTo w o)) (asked_link c w o)

abbrev pub copy_link : ClusterState → ℕ → Id → ℕ → Bool → Link
copy_link c w o n lives = if lives then under_way_or (sent c (FetchOf w n o)) (Resting w) else NodeUntold w n

-- one that asked the node for a copy
unfoldable pub fetch_link : ClusterState → ℕ → Id → ℕ → Link
fetch_link c w o n = under_way_or (sent c (AnswerTo w o)) (copy_link c w o n (is_live_node (node_at c n)))

-- ---- an attempt that is asked for, or was begun

abbrev pub queue_link : ℕ → ℕ → Bool → Link
queue_link u n queued = if queued then LacksSlot u n else Resting u

abbrev pub unasked_link : ClusterState → Attempt → ℕ → ℕ → Link
unasked_link c a t n = under_way_or (sent c (AskFor a t)) (queue_link a.object.owner n (is_queued a t (node_at c n)))

abbrev pub ask_node_link : ClusterState → Attempt → ℕ → ℕ → Bool → Link
ask_node_link c a t n lives = if lives then unasked_link c a t n else NodeUntold a.object.owner n

unfoldable pub ask_link : ClusterState → Attempt → ℕ → ℕ → Link
ask_link c a t n = under_way_or (sent c (ReplyTo a t)) (ask_node_link c a t n (is_live_node (node_at c n)))

abbrev pub death_link : ℕ → ℕ → ℕ → Bool → Link
death_link u v n node_lives = if node_lives then Untold u v else NodeUntold u n

abbrev pub started_link : ClusterState → Attempt → ℕ → Bool → Link
started_link c a v runs_it = if runs_it then worker_link c v else under_way_or (sent c (PushOf a)) (Resting a.object.owner)

abbrev pub begun_link : ClusterState → Attempt → ℕ → ℕ → Bool → Link
begun_link c a v n lives =
    if lives then started_link c a v (runs c v a)
    else under_way_or (sent c (EndOf a)) (death_link a.object.owner v n (is_live_node (node_at c n)))

unfoldable pub attempt_link : ClusterState → Attempt → ℕ → ℕ → Link
attempt_link c a v n = begun_link c a v n (is_live (worker_at c v))

-- ---- an attempt that has stopped

abbrev pub unheld_link : ClusterState → ℕ → Option Holding → Link
unheld_link c w None = Resting w
unheld_link c w (Some h) = HoldsBack w h.holder h.object

unfoldable pub end_link : ClusterState → ℕ → Attempt → Link
end_link c w a = under_way_or (sent c (EndOf a)) (unheld_link c w (first_hold c w))

abbrev pub holding_link : ClusterState → ℕ → Id → Id → Bool → Link
holding_link c w e o lives = if lives then under_way_or (sent c (HoldOf e o)) (Resting w) else Untold w o.owner

unfoldable pub hold_link : ClusterState → ℕ → Id → Id → Link
hold_link c w e o = under_way_or (sent c (HoldAckOf e o)) (holding_link c w e o (is_live (worker_at c o.owner)))

-- ---- slots

-- how a worker that has a slot comes to give it back; none where nothing that it waits for is under way
abbrev pub lent_link : ClusterState → ℕ → Option Link
lent_link c w = option_map (λ k. UnderWay k) (sent c (ForLent w))

abbrev pub holder_phase_link : ClusterState → ℕ → Phase → Option Link
holder_phase_link c w Ready = Some (CanGoOn w)
holder_phase_link c w (Out j) = Some (HasJob w j)
holder_phase_link c w _ = lent_link c w

abbrev pub holder_run_link : ClusterState → ℕ → Option Execution → Option Link
holder_run_link c w None = lent_link c w
holder_run_link c w (Some r) = holder_phase_link c w r.phase

unfoldable pub holder_link : ClusterState → ℕ → Option Link
holder_link c w = holder_run_link c w (run_of (worker_at c w))

abbrev pub or_link : Option Link → Option Link → Option Link
or_link None other = other
or_link (Some l) other = Some l

-- of the first that comes to it
abbrev pub first_holder_link : ClusterState → List ℕ → Option Link
first_holder_link c [] = None
first_holder_link c (w ∷ ws) = or_link (holder_link c w) (first_holder_link c ws)

abbrev pub kept_link : ℕ → List ℕ → Link
kept_link w [] = Resting w
kept_link w (v ∷ vs) = KeepsSlot v

abbrev pub link_or : Option Link → Link → Link
link_or None other = other
link_or (Some l) other = l

abbrev pub taken_link : ClusterState → ℕ → List ℕ → Link
taken_link c w slot_holders = link_or (first_holder_link c slot_holders) (kept_link w slot_holders)

-- worker w, or what it asked, waits for a slot of the node
unfoldable pub slot_link : ClusterState → ℕ → ℕ → Link
slot_link c w n = taken_link c w (holders_at c n)

-- ---- the chain

-- what keeps that from coming for which the link waits; the last links name the event that would bring it
abbrev pub next_link : ClusterState → Link → Option Link
next_link c (WaitsFor w a o) = Some (wait_link c w o)
next_link c (FetchesFor w a o n) = Some (fetch_link c w o n)
next_link c (AskedFor a t n) = Some (ask_link c a t n)
next_link c (RunsAt a v n) = Some (attempt_link c a v n)
next_link c (HasStopped w a) = Some (end_link c w a)
next_link c (HoldsBack w e o) = Some (hold_link c w e o)
next_link c (LacksSlot w n) = Some (slot_link c w n)
next_link c _ = None

unfoldable pub chain : ClusterState → ℕ → Option Link → List Link
chain c zero link = []
chain c (suc n) None = []
chain c (suc n) (Some l) = l ∷ chain c n (next_link c l)

-- as many as there may be: a worker has three at most before the next one's, and a run 1,024 workers
unfoldable pub links : ClusterState → List Link
links c = chain c 4096 (Some (worker_link c 1))

-- so of any worker's attempt
unfoldable pub worker_links : ClusterState → ℕ → List Link
worker_links c w = chain c 4096 (Some (worker_link c w))
