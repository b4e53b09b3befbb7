-- What the steps of the protocol keep: the families of a worker's steps within its event, and how an event begins and ends on the whole.
use Rattle.std.specs.Prelude.{◌≡◌, ℕ, true, false, Bool, List, [], ◌∷◌, ◌++◌, Some}
use Rattle.meaning.specs.Values.{Id}
use Rattle.kind_laws.specs.of_event_log.Entries.{Claim, Commit, Deliver, Entry, Event, Evict, In, Join, Kill, KillNode, Lose, Notice, Refused, Released}
use Rattle.kind_laws.specs.of_event_log.Entries.{Refusal}
use Rattle.kind_laws.specs.of_event_log.Events.{claim_in, commit_in, is_committed, is_killed, node_is_killed, node_lives, tells, worker_of_job}
use Rattle.kind_laws.specs.of_event_log.Holding.{IsHeld}
use Rattle.kind_laws.specs.of_event_log.Legal.{Happens}
use Rattle.kind_laws.specs.of_event_log.Causes.{IsRefusal}
use Rattle.kind_laws.specs.of_event_log.Rules.{Receiver, Setting}
use Rattle.step_laws.specs.of_protocol.Commits.{claim_step, commit_step}
use Rattle.step_laws.specs.of_protocol.Deliveries.{reached}
use Rattle.step_laws.specs.of_protocol.Events.{happens, killed, node_killed, with_committed}
use Rattle.step_laws.specs.of_protocol.Jobs.{JobRecord, Nothing, Outcomes}
use Rattle.step_laws.specs.of_protocol.Messages.{Envelope, Message, Endpoint, TheNode, TheWorker}
use Rattle.step_laws.specs.of_protocol.Nodes.{Node}
use Rattle.step_laws.specs.of_protocol.Notices.{notice_node_step, notice_step}
use Rattle.step_laws.specs.of_protocol.Numbered.{item_at}
use Rattle.step_laws.specs.of_protocol.Releases.{release_step}
use Rattle.step_laws.specs.of_protocol.Slots.{node_reached}
use Rattle.step_laws.specs.of_protocol.Steps.{WorkerContext}
use Rattle.step_laws.specs.of_protocol.Tables.{Out, Ready, Execution, Worker}
use Rattle.step_laws.specs.of_protocol.Ticks.{tick_step}
use Rattle.step_laws.specs.of_protocol.Cluster.{Transition, ClusterState, after_node, after_worker, here, node_at, there, worker_at}
use Rattle.protocol_legal.specs.Done.{IsDone}
use Rattle.protocol_legal.specs.During.{Frame, HearsNoDeath, SoundHere, past_of, so_far}
use Rattle.protocol_legal.specs.Frame.{Arrives, ComesTo, IsOwnEvent, JobsFollow, in_event}
use Rattle.protocol_legal.specs.Knows.{KnowsWorker}
use Rattle.protocol_legal.specs.Past.{past}
use Rattle.protocol_legal.specs.Says.{SaysBetween}
use Rattle.protocol_legal.specs.Whole.{Between, setting_of}

-- ---- a worker's step within its event

-- the job that is committed is that of the worker's attempt, which is out, and what is handed in is what the attempt does
pub record IsJobHere (f : Frame) (j : ℕ) (h : WorkerContext) (run : Execution) (d : Outcomes) : Type 0 where
  pub is : h.worker.run ≡ Some run
  pub out : run.phase ≡ Out j
  pub claimed : worker_of_job j f.log ≡ Some h.me
  pub once : is_committed j f.log ≡ false
  pub done : IsDone f.setting run d

-- what these entries release isn't held where they release it
abbrev pub NoneGoesHeld : Frame → List Entry → Type 0
NoneGoesHeld f es = (before after : List Entry) (o : Id) → es ≡ before ++ Released o ∷ after → IsHeld o (so_far f before) → ⊥

-- the message is true before the event logged anything
abbrev pub IsSaid : Frame → WorkerContext → Endpoint → Message → Type 0
IsSaid f h sender m = SaysBetween (past_of f h.there.out.entries f.asked) sender (TheWorker h.me) m

-- what the worker knew before the event is true as it comes in
abbrev pub KnewAll : Frame → WorkerContext → Type 0
KnewAll f h = KnowsWorker f.setting (past_of f [] f.asked) h.me h.worker

-- each step of a worker comes to what is true within its event, with each entry allowed where it stands
pub record StepsOfWorkers : Type 0 where
  -- an attempt that is ready is given out
  pub claims : (f : Frame) (h : WorkerContext) (j : ℕ) (run : Execution) →
      HearsNoDeath f → ComesTo f h → h.worker.run ≡ Some run → run.phase ≡ Ready → ComesTo f (claim_step h j)
  -- a tick sends again what is true
  pub ticks : (f : Frame) (h : WorkerContext) → HearsNoDeath f → ComesTo f h → ComesTo f (tick_step h)
  -- a true message reaches the worker
  pub reaches : (f : Frame) (h : WorkerContext) (sender : Endpoint) (m : Message) →
      HearsNoDeath f → SoundHere f f.asked h → IsSaid f h sender m → ComesTo f (reached h sender m)
  -- it is told that a node died that was killed
  pub node_notices : (f : Frame) (h : WorkerContext) (n : ℕ) →
      HearsNoDeath f → ComesTo f h → node_is_killed n f.anchor.log ≡ true → ComesTo f (notice_node_step h n)
  -- it is told that a worker died that was killed; this begins before it has taken note
  pub notices : (f : Frame) (h : WorkerContext) (v : ℕ) →
      f.event ≡ Notice h.me v → Arrives f h → is_killed v f.log ≡ true → is_killed v f.anchor.log ≡ true → ComesTo f (notice_step h v)
  -- what was done on its job is committed
  pub commits : (f : Frame) (h : WorkerContext) (j : ℕ) (run : Execution) (d : Outcomes) →
      f.event ≡ Commit j → Arrives f h → KnewAll f h → IsJobHere f j h run d → ComesTo f (commit_step h d)
  -- at the end it releases what it may, of which nothing is held
  pub releases : (f : Frame) (h : WorkerContext) → ComesTo f h → NoneGoesHeld f (release_step h).there.out.entries → ComesTo f (release_step h)

-- ---- an event on the whole

-- after the event, which made this of the whole, the log with its entries is legal and the whole knows
abbrev pub Follows : Setting → List Entry → Event → ℕ → Transition → Type 0
Follows s log e seat m = Between s (log ++ In e seat ∷ m.out.entries) m.whole

-- the live worker on its node, taken out of the whole for the event
pub record IsTaken (s : Setting) (log : List Entry) (c : ClusterState) (e : Event) (w : ℕ) (x : Worker) (node : Node) : Type 0 where
  pub at : worker_at c w ≡ Some x
  pub lives : x.is_live ≡ true
  pub home : node_at c x.node ≡ Some node
  pub own : IsOwnEvent (setting_of s c) log e w

-- the frame of the worker's event
abbrev pub frame_of : (s : Setting) (log : List Entry) (c : ClusterState) → Between s log c → Event → ℕ → ℕ → Frame
frame_of s log c b e seat w = in_event (setting_of s c) log b.asked e seat w

-- the worker is taken out of a whole between two events, and put back
pub record EventsOfWorkers (s : Setting) (log : List Entry) (c : ClusterState) (b : Between s log c) : Type 0 where
  -- as its event comes in, it knows what it knew
  pub enters : (e : Event) (seat w : ℕ) (x : Worker) (node : Node) → IsTaken s log c e w x node → Arrives (frame_of s log c b e seat w) (here c w x node)
  -- of all events but a notice, so that what is true within an event is true at once
  pub sound_at_once : (e : Event) (seat w : ℕ) (x : Worker) (node : Node) → Arrives (frame_of s log c b e seat w) (here c w x node) →
      Happens (setting_of s c) log e [] → ((u : ℕ) → tells w u e ≡ false) → SoundHere (frame_of s log c b e seat w) b.asked (here c w x node)
  pub knows_at_once : (e : Event) (seat w : ℕ) (x : Worker) (node : Node) → Arrives (frame_of s log c b e seat w) (here c w x node) →
      ((u : ℕ) → tells w u e ≡ false) → KnowsWorker (setting_of s c) (past (log ++ In e seat ∷ []) b.asked) w x
  -- put back, beside jobs that follow the event
  pub leaves : (e : Event) (seat w : ℕ) (x : Worker) (node : Node) → IsTaken s log c e w x node →
      (jobs : List JobRecord) (made : ℕ) (delivered : List Bool) → JobsFollow log e jobs → (h : WorkerContext) → ComesTo (frame_of s log c b e seat w) h →
      Follows s log e seat (after_worker (record c { jobs = jobs; made = made; delivered = delivered }) w x.node h)
  -- the jobs that follow a claim, a commit, and any other event
  pub job_given : (w : ℕ) → JobsFollow log (Claim w) (c.jobs ++ record { worker = w; is_committed = false } ∷ [])
  pub job_committed : (j : ℕ) (g : JobRecord) → item_at c.jobs j ≡ Some g → JobsFollow log (Commit j) (with_committed c j 0).jobs
  pub jobs_stay : (e : Event) → claim_in e ≡ [] → commit_in e ≡ [] → JobsFollow log e c.jobs
  -- who is dead by the tables was killed by the log
  pub dead_worker : (v : ℕ) (x : Worker) → worker_at c v ≡ Some x → x.is_live ≡ false → is_killed v log ≡ true
  pub dead_node : (n : ℕ) (x : Node) → node_at c n ≡ Some x → x.is_live ≡ false → node_is_killed n log ≡ true
  pub dead_worker_then : (e : Event) (seat v : ℕ) → is_killed v log ≡ true → is_killed v (log ++ In e seat ∷ []) ≡ true
  pub dead_node_then : (e : Event) (seat n : ℕ) → node_is_killed n log ≡ true → node_is_killed n (log ++ In e seat ∷ []) ≡ true

-- what a live node makes of a message that reaches it
abbrev pub after_reached : ClusterState → List Bool → ℕ → Node → Envelope → Transition
after_reached c delivered n node l = after_node (record c { delivered = delivered }) n (node_reached (there c n node) l.sender l.message)

-- events of no worker
pub record EventsOfOthers (s : Setting) (log : List Entry) (c : ClusterState) : Type 0 where
  -- a message reaches a live node, or one that is dead, or a dead worker
  pub node_reached : (k seat n : ℕ) (node : Node) (l : Envelope) → item_at c.network k ≡ Some l → l.receiver ≡ TheNode n →
      node_at c n ≡ Some node → node.is_live ≡ true → (delivered : List Bool) → Follows s log (Deliver k) seat (after_reached c delivered n node l)
  pub passes_by : (k seat : ℕ) (delivered : List Bool) → (r : Receiver) × ((setting_of s c).receiver k ≡ Some r) →
      Between s (log ++ In (Deliver k) seat ∷ []) (record c { delivered = delivered })
  -- a live worker dies, a live node, a copy is lost or evicted, a node comes
  pub killed : (w seat : ℕ) (x : Worker) → worker_at c w ≡ Some x → x.is_live ≡ true → Follows s log (Kill w) seat (killed c w)
  pub node_killed : (n seat : ℕ) (node : Node) → node_at c n ≡ Some node → node.is_live ≡ true →
      Between s (log ++ In (KillNode n) seat ∷ []) (node_killed c n).whole
  pub lost : (n seat : ℕ) (o : Id) → node_lives s.nodes n log ≡ true → Between s (log ++ In (Lose n o) seat ∷ []) (happens c (Lose n o) Nothing).whole
  pub evicted : (n seat : ℕ) (o : Id) → node_lives s.nodes n log ≡ true → Between s (log ++ In (Evict n o) seat ∷ []) (happens c (Evict n o) Nothing).whole
  pub joined : (seat : ℕ) → Between s (log ++ In Join seat ∷ []) (happens c Join Nothing).whole
  -- an event is refused for its cause
  pub refused : (e : Event) (seat : ℕ) (code : Refusal) → IsRefusal (setting_of s c) log e code → Between s (log ++ In e seat ∷ Refused code ∷ []) c
