-- The steps of the protocol keep its log legal: the families of steps and the frame of an event, put together.
use Rattle.std.proofs.Common.{◌≡◌, ℕ, ◌+◌, Bool, true, false, List, [], ◌∷◌, ◌++◌, Some, refl, subst}
use Rattle.std.specs.Prelude.{if◌then◌else◌, ◌==◌}
use Rattle.std.specs.List.{AllByRecursion}
use Rattle.std.proofs.lemmas.Option.{same_Some}
use Rattle.kind_laws.specs.of_event_log.Entries.{Deliver, Entry, In}
use Rattle.kind_laws.specs.of_event_log.Rules.{Setting}
use Rattle.kind_laws.proofs.of_event_log.Extending.{logs_extend}
use Rattle.step_laws.specs.of_protocol.Messages.{Envelope}
use Rattle.step_laws.specs.of_protocol.Cluster.{ClusterState}
use Rattle.step_laws.specs.Counting.{item_of}
use Rattle.step_laws.proofs.Places.{counted}
use Rattle.protocol_legal.specs.Past.{past}
use Rattle.protocol_legal.specs.Says.{Says}
use Rattle.protocol_legal.proofs.Growing.{says_grows}
use Rattle.protocol_legal.proofs.FrameIn.{grows_silent, in_says_nothing}
use Rattle.protocol_legal.proofs.FrameWorker as worker
use Rattle.protocol_legal.proofs.FrameEnters as enters
use Rattle.protocol_legal.proofs.FrameSilent as silent
use Rattle.protocol_legal.proofs.FrameNodes.{node_is_reached}
use Rattle.protocol_legal.proofs.FrameFamilies.{families, node_families}
use Rattle.protocol_legal.proofs.FrameKills.{kills_worker}
use Rattle.protocol_legal.proofs.FrameNodesChange.{joins_whole, node_dies_whole}
use Rattle.protocol_legal.proofs.FrameBegins.{first_sound}
use Rattle.protocol_legal.specs.Steps.{EventsOfOthers, EventsOfWorkers}
use Rattle.protocol_legal.specs.Law.{StepsStayLegal}
use Rattle.step_laws.specs.of_protocol.Numbered.{item_at}
use Rattle.protocol_legal.specs.Whole.{Between}

pub item_said : (P : Envelope → Type 0) (ls : List Envelope) (i k : ℕ) (l : Envelope) → AllByRecursion P ls → item_of i ls k ≡ Some l → P l
item_said P [] i k l h g = absurd (cc)
item_said P (x ∷ ls) i k l h g = one (i == k) g (item_said P ls (i + 1) k l h.1)
  where
    one : (t : Bool) → (if t then Some x else item_of (i + 1) ls k) ≡ Some l → (item_of (i + 1) ls k ≡ Some l → P l) → P l
    one true e ih = subst P (same_Some x l e) h.0
    one false e ih = ih e

-- the worker is taken out of the whole, and put back
events_of_workers : (s : Setting) (log : List Entry) (c : ClusterState) (b : Between s log c) → EventsOfWorkers s log c b
events_of_workers s log c b = record {
  enters = λ e seat w x node t. enters.enters s log c b e seat w x node t.at t.lives t.home t.own;
  sound_at_once = λ e seat w x node a h u. enters.sound_at_once s log c b e seat w x node a h u;
  knows_at_once = λ e seat w x node a u. enters.knows_at_once s log c b e seat w x node a u;
  leaves = λ e seat w x node t jobs made delivered follow h z. worker.leaves s log c b e seat w x node t.at t.lives t.home t.own jobs made delivered follow h z;
  job_given = worker.job_given s log c b;
  job_committed = worker.job_committed s log c b;
  jobs_stay = worker.jobs_stay s log c b;
  dead_worker = worker.dead_worker_killed s log c b;
  dead_node = worker.dead_node_killed s log c b;
  dead_worker_then = λ e seat v h. (logs_extend log (In e seat ∷ []) refl).kills v h;
  dead_node_then = λ e seat n h. worker.still_killed log e seat n h;
}

pub said_behind : (s : Setting) (log : List Entry) (c : ClusterState) (b : Between s log c) (k seat : ℕ) (l : Envelope) → item_at c.network k ≡ Some l → Says (past (log ++ In (Deliver k) seat ∷ []) b.asked) l
said_behind s log c b k seat l sent =
    says_grows (past log b.asked) (past (log ++ In (Deliver k) seat ∷ []) b.asked) (grows_silent log (In (Deliver k) seat ∷ []) b.asked (in_says_nothing (Deliver k) seat)) l
    (item_said (Says (past log b.asked)) c.network 1 k l b.knows.told (counted c.network k sent))

-- what is no event of a worker's own
events_of_others : (s : Setting) (log : List Entry) (c : ClusterState) → Between s log c → EventsOfOthers s log c
events_of_others s log c b = record {
  node_reached = λ k seat n node l sent to at live delivered. node_is_reached node_families s log c b k seat n node l sent to at live (said_behind s log c b k seat l sent) delivered;
  passes_by = silent.passes_by s log c b;
  killed = λ w seat x at live. kills_worker node_families s log c b w seat x at live;
  node_killed = λ n seat node at live. node_dies_whole s log c b n seat node at live;
  lost = silent.loses_copies s log c b;
  evicted = silent.evicts s log c b;
  joined = λ seat. joins_whole s log c b seat;
  refused = silent.refused s log c b;
}

pub steps_stay_legal : StepsStayLegal
steps_stay_legal = record { opens = first_sound; steps = families; workers = events_of_workers; others = events_of_others }
