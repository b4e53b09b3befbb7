-- What keeps an attempt from going on, in sentences.
use Rattle.std.specs.Prelude.{List, None, Option, Some, [], codes, if◌then◌else◌, ℕ, ◌+◌, ◌++◌, ◌-◌, ◌==◌, ◌∷◌}
use Rattle.std.specs.List.{flat_map}
use Rattle.std.specs.Fmt.{decimal}
use Rattle.report.specs.ValueTexts.{id_text}
use Rattle.meaning.specs.Values.{Birth, Id}
use Rattle.meaning.specs.Births.{Bearing, birth_at}
use Rattle.event_log.specs.Entries.{Attempt, Claim, Commit, Deliver, Entry, Event, Kill, Notice, NoticeNode, Tick}
use Rattle.event_log.specs.Events.{from_one}
use Rattle.event_log.specs.Words.{births}
use Rattle.report_text.specs.of_report_lines.Texts.{event_text}
use Rattle.log_words.specs.declared.contents.Contents.{Contents}
use Rattle.log_words.specs.Calls.{birth_text}
use Rattle.log_words.specs.Tasks.{task_of}
use Rattle.log_text.specs.Attempts.{named_text}
use Rattle.message_text.specs.Messages.{kind_text}
use Rattle.protocol_data.specs.declared.message.Envelope.{Envelope}
use Rattle.protocol_data.specs.declared.message.Endpoint.{Endpoint}
use Rattle.protocol_data.specs.declared.message.Endpoint.TheVariants.{TheNode, TheWorker}
use Rattle.protocol_data.specs.declared.cluster_state.ClusterState.{ClusterState}
use Rattle.waits.specs.declared.link.Link.{Link}
use Rattle.waits.specs.declared.link.Link.TheVariants.{AskedFor, CanGoOn, FetchesFor, HasJob, HasStopped, HoldsBack, IsDead, KeepsSlot}
use Rattle.waits.specs.declared.link.Link.TheVariants.{LacksSlot, NodeUntold, Resting, RunsAt, UnderWay, Untold, WaitsFor, WasReleased}
use Rattle.waits.specs.Tables.{holders_at}
use Rattle.why_text.specs.Again.{again_note}
use Rattle.why_text.specs.Holders.{death_of}
use Rattle.main_text.specs.declared.happenings.Happening.TheVariants.{Begins, Claims, Commits, NodeDies, Releases, Stops}
use Rattle.main_text.specs.Happenings.{when_last, when_some}

unfoldable pub worker_text : ℕ → List ℕ
worker_text w = codes "w" ++ decimal w

unfoldable pub node_text : ℕ → List ℕ
node_text n = codes "n" ++ decimal n

-- : commit 4 would let it go on.
unfoldable pub remedy_text : Event → List ℕ
remedy_text e = codes ": " ++ (event_text e ++ codes " would let it go on.\n")

-- in event 6 (kill 2, line 2), when the worker died
unfoldable pub death_when : List Entry → List ℕ → ℕ → List ℕ
death_when log lines w = when_some (death_of lines log w)

-- w1 died in event 9 (kill 1, line 5): no event lets it go on.
abbrev pub dead_text : List Entry → List ℕ → ℕ → List ℕ
dead_text log lines w = worker_text w ++ (codes " died" ++ (death_when log lines w ++ codes ": no event lets it go on.\n"))

-- w3 is ready: claim 3 would let it go on.
abbrev pub ready_text : ℕ → List ℕ
ready_text w = worker_text w ++ (codes " is ready" ++ remedy_text (Claim w))

-- w3 took job 4 in event 12 (claim 3, line 5): commit 4 would let it go on.
abbrev pub job_text : List Entry → List ℕ → ClusterState → ℕ → ℕ → List ℕ
job_text log lines c w j =
    worker_text w ++ (codes " took job " ++ (decimal j ++ (when_last c.jobs lines log (Claims w) ++ remedy_text (Commit j))))

abbrev pub other_text : ℕ → List ℕ
other_text w = codes ", " ++ worker_text w

abbrev pub others_text : List ℕ → List ℕ
others_text ws = flat_map other_text ws

-- w2, w4
abbrev pub workers_text : List ℕ → List ℕ
workers_text [] = codes "nobody"
workers_text (w ∷ ws) = worker_text w ++ others_text ws

-- w1 waits for a slot of n1, taken by w2, w4.
abbrev pub slot_text : ClusterState → ℕ → ℕ → List ℕ
slot_text c w n =
    worker_text w ++ (codes " waits for a slot of " ++ (node_text n ++ (codes ", taken by " ++ (workers_text (holders_at c n) ++ codes ".\n"))))

-- w4 keeps its slot, and nothing comes to it any more: kill 4 would let it go on.
abbrev pub kept_text : ℕ → List ℕ
kept_text w = worker_text w ++ (codes " keeps its slot, and nothing comes to it any more" ++ remedy_text (Kill w))

abbrev pub birth_note : Contents → Option Birth → List ℕ
birth_note how None = []
birth_note how (Some b) = codes ": " ++ birth_text how b

-- which of a task's results it is, counted from 0, if it isn't the first
unfoldable pub result_note : ℕ → List ℕ
result_note place = if place == 0 then [] else codes ", result " ++ decimal (place + 1)

-- of an object, whose task is named by that one
abbrev pub made_by : Contents → List Bearing → Id → Id → List ℕ
made_by how births o task = id_text o ++ (birth_note how (birth_at births task) ++ result_note (o.serial - task.serial))

-- o1.2: remote(2) inc(get o1.1, 5), and o1.4: remote(3) two(4), result 2
unfoldable pub made_text : Contents → List Bearing → Id → List ℕ
made_text how births o = made_by how births o (task_of births o)

unfoldable pub stopped_text : List Entry → List ℕ → ClusterState → ℕ → Attempt → List ℕ
stopped_text log lines c w a = named_text (births log) a ++ (codes " stopped" ++ when_last c.jobs lines log (Commits w))

-- a1.0#0 (main) stopped in event 8 (commit 3, line 4), and waits for o1.2: remote(2) inc(get o1.1, 5).
abbrev pub wait_text : Contents → List Entry → List ℕ → ClusterState → ℕ → Attempt → Id → List ℕ
wait_text how log lines c w a o = stopped_text log lines c w a ++ (codes ", and waits for " ++ (made_text how (births log) o ++ codes ".\n"))

-- w2 asked n2 for a copy.
abbrev pub copy_text : ℕ → ℕ → List ℕ
copy_text w n = worker_text w ++ (codes " asked " ++ (node_text n ++ codes " for a copy.\n"))

abbrev pub fetch_text : Contents → List Entry → List ℕ → ClusterState → ℕ → Attempt → Id → ℕ → List ℕ
fetch_text how log lines c w a o n = wait_text how log lines c w a o ++ copy_text w n

-- a1.2#0 (inc) ended in event 13 (commit 2, line 5), which w1 does not know.
abbrev pub end_text : List Entry → List ℕ → ClusterState → Attempt → List ℕ
end_text log lines c a =
    named_text (births log) a
    ++ (codes " ended" ++ (when_last c.jobs lines log (Stops a) ++ (codes ", which " ++ (worker_text a.object.owner ++ codes " does not know.\n"))))

unfoldable pub knowledge_text : Id → Id → List ℕ
knowledge_text e o = codes " knows that " ++ (id_text e ++ (codes " has " ++ (id_text o ++ codes ".\n")))

-- w3 does not tell of it before w4 knows that o1.2 has o4.1.
abbrev pub hold_text : ℕ → Id → Id → List ℕ
hold_text w e o =
    worker_text w
    ++ (codes " does not tell of it before " ++ (worker_text o.owner ++ knowledge_text e o))

-- a1.2#0 (inc) has not begun: w1 asked n1 for a worker.
abbrev pub ask_text : List Entry → Attempt → ℕ → List ℕ
ask_text log a n =
    named_text (births log) a
    ++ (codes " has not begun: " ++ (worker_text a.object.owner ++ (codes " asked " ++ (node_text n ++ codes " for a worker.\n"))))

-- a1.2#1 (inc) began on w3 in event 10 (deliver 5, line 4), since w2 died in event 6 (kill 2, line 2).
abbrev pub run_text : List Entry → List ℕ → ClusterState → Attempt → ℕ → List ℕ
run_text log lines c a v =
    named_text (births log) a
    ++ (codes " began on "
    ++ (worker_text v ++ (when_last c.jobs lines log (Begins a) ++ (again_note (births log) lines log a ++ codes ".\n"))))

abbrev pub endpoint_name : Endpoint → List ℕ
endpoint_name (TheWorker w) = worker_text w
endpoint_name (TheNode n) = node_text n

abbrev pub envelope_text : Envelope → List ℕ
envelope_text l =
    codes " (" ++ (kind_text l.message ++ (codes ", from " ++ (endpoint_name l.sender ++ (codes " to " ++ (endpoint_name l.receiver ++ codes ")")))))

abbrev pub envelope_note : Option Envelope → List ℕ
envelope_note None = []
envelope_note (Some l) = envelope_text l

-- Message 5 (Ask, from w1 to n1) has not arrived: deliver 5 would let it go on.
abbrev pub message_text : ClusterState → ℕ → List ℕ
message_text c k =
    codes "Message " ++ (decimal k ++ (envelope_note (from_one c.network k) ++ (codes " has not arrived" ++ remedy_text (Deliver k))))

unfoldable pub untold_note : ℕ → List ℕ
untold_note w = codes ", and " ++ (worker_text w ++ codes " has not been told")

-- w2 died in event 6 (kill 2, line 2), and w1 has not been told: notice 1 2 would let it go on.
abbrev pub untold_text : List Entry → List ℕ → ℕ → ℕ → List ℕ
untold_text log lines w v =
    worker_text v ++ (codes " died" ++ (death_when log lines v ++ (untold_note w ++ remedy_text (Notice w v))))

-- n2 died in event 6 (kill-node 2, line 2), and w1 has not been told: notice-node 1 2 would let it go on.
abbrev pub node_untold_text : List Entry → List ℕ → ClusterState → ℕ → ℕ → List ℕ
node_untold_text log lines c w n =
    node_text n ++ (codes " died" ++ (when_last c.jobs lines log (NodeDies n) ++ (untold_note w ++ remedy_text (NoticeNode w n))))

-- w2 released o2.1 in event 9 (notice 2 3, line 4), and tells nobody of it: no event by itself lets it go on.
abbrev pub released_text : List Entry → List ℕ → ClusterState → Id → List ℕ
released_text log lines c o =
    worker_text o.owner
    ++ (codes " released "
    ++ (id_text o ++ (when_last c.jobs lines log (Releases o) ++ codes ", and answers nobody: no event by itself lets it go on.\n")))

-- Nothing that w2 asked for is under way: tick 2 would ask again.
abbrev pub rest_text : ℕ → List ℕ
rest_text w = codes "Nothing that " ++ (worker_text w ++ (codes " asked for is under way: " ++ (event_text (Tick w) ++ codes " would ask again.\n")))

abbrev pub link_text : Contents → List Entry → List ℕ → ClusterState → Link → List ℕ
link_text how log lines c (IsDead w) = dead_text log lines w
link_text how log lines c (CanGoOn w) = ready_text w
link_text how log lines c (HasJob w j) = job_text log lines c w j
link_text how log lines c (LacksSlot w n) = slot_text c w n
link_text how log lines c (KeepsSlot w) = kept_text w
link_text how log lines c (WaitsFor w a o) = wait_text how log lines c w a o
link_text how log lines c (FetchesFor w a o n) = fetch_text how log lines c w a o n
link_text how log lines c (HasStopped w a) = end_text log lines c a
link_text how log lines c (HoldsBack w e o) = hold_text w e o
link_text how log lines c (AskedFor a t n) = ask_text log a n
link_text how log lines c (RunsAt a v n) = run_text log lines c a v
link_text how log lines c (UnderWay k) = message_text c k
link_text how log lines c (Untold w v) = untold_text log lines w v
link_text how log lines c (NodeUntold w n) = node_untold_text log lines c w n
link_text how log lines c (WasReleased o) = released_text log lines c o
link_text how log lines c (Resting w) = rest_text w

abbrev pub links_text : Contents → List Entry → List ℕ → ClusterState → List Link → List ℕ
links_text how log lines c links = flat_map (link_text how log lines c) links
