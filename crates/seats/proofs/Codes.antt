-- What refuses an event before it is tried is logged.
use Rattle.seats.specs.Counted.{is_logged}
use Rattle.std.proofs.Common.{◌≡◌, ℕ, true, false, Bool, Option, Some, None, refl, ◌++◌}
use Rattle.std.specs.Prelude.{not, is_some, ◌&&◌, if◌then◌else◌}
use Rattle.std.specs.List.{list_any}
use Rattle.meaning.specs.Values.{Id}
use Rattle.event_log.specs.Entries.{Event, Claim, Commit, Deliver, Tick, Notice, NoticeNode, Evict, Lose, Kill, KillNode, Join}
use Rattle.event_log.specs.Entries.{Refusal, Pinned, NoCopy, NoWorker, NotReady, NoJob, Stale, NoMessage, NotDead, NoNode}
use Rattle.protocol.specs.Numbered.{item_at}
use Rattle.protocol.specs.Jobs.{JobRecord, CommitInput}
use Rattle.protocol.specs.Stores.{Store, evict_refusal, is_of, lose_refusal}
use Rattle.protocol.specs.Nodes.{Node}
use Rattle.protocol.specs.Cluster.{ClusterState, node_at, worker_at}
use Rattle.protocol.specs.Events.{is_live_node, is_live_worker}
use Rattle.protocol.specs.Refusals.{commit_refusal, is_dead_node, is_dead_worker, is_of_job, is_out_by}
use Rattle.protocol.specs.Refusals.{is_ready, no_worker, or_refusal, refusal, store_refusal, unless}

abbrev pub is_low : Option Refusal → Bool
is_low None = true
is_low (Some refusal) = is_logged refusal

unless_low : (b : Bool) (code : Refusal) → is_logged code ≡ true → is_low (unless b code) ≡ true
unless_low true code h = refl
unless_low false code h = h

or_low : (a b : Option Refusal) → is_low a ≡ true → is_low b ≡ true → is_low (or_refusal a b) ≡ true
or_low None b h k = k
or_low (Some code) b h k = h

if_low : (b : Bool) (x y : Option Refusal) → is_low x ≡ true → is_low y ≡ true → is_low (if b then x else y) ≡ true
if_low true x y h k = h
if_low false x y h k = k

evict_low : (o : Id) (s : Store) → is_low (evict_refusal o s) ≡ true
evict_low o s =
    let pinned : Bool = list_any (is_of o) s.primaries in
    if_low (list_any (is_of o) s.secondaries) None (if pinned then Some Pinned else Some NoCopy) refl (if_low pinned (Some Pinned) (Some NoCopy) refl refl)

lose_low : (o : Id) (s : Store) → is_low (lose_refusal o s) ≡ true
lose_low o s = if_low (list_any (is_of o) (s.primaries ++ s.secondaries)) None (Some NoCopy) refl refl

store_low : (f : Store → Option Refusal) → ((s : Store) → is_low (f s) ≡ true) → (node : Option Node) → is_low (store_refusal f node) ≡ true
store_low f h None = refl
store_low f h (Some n) = if_low n.is_live (f n.store) (Some NoNode) (h n.store) refl

commit_low : (c : ClusterState) (j : ℕ) (handed : CommitInput) (g : Option JobRecord) → is_low (commit_refusal c j handed g) ≡ true
commit_low c j handed None = refl
commit_low c j handed (Some g) =
    or_low (unless (not g.is_committed && is_of_job handed && is_out_by (worker_at c g.worker) j) NoJob) (unless (is_live_worker (worker_at c g.worker)) Stale)
    (unless_low (not g.is_committed && is_of_job handed && is_out_by (worker_at c g.worker) j) NoJob refl)
    (unless_low (is_live_worker (worker_at c g.worker)) Stale refl)

no_worker_low : (c : ClusterState) (w : ℕ) → is_low (no_worker c w) ≡ true
no_worker_low c w = unless_low (is_live_worker (worker_at c w)) NoWorker refl

pub refusal_low : (c : ClusterState) (e : Event) (handed : CommitInput) → is_low (refusal c e handed) ≡ true
refusal_low c (Claim w) handed = or_low (no_worker c w) (unless (is_ready c w) NotReady) (no_worker_low c w) (unless_low (is_ready c w) NotReady refl)
refusal_low c (Commit j) handed = commit_low c j handed (item_at c.jobs j)
refusal_low c (Deliver k) handed = unless_low (is_some (item_at c.network k)) NoMessage refl
refusal_low c (Tick w) handed = no_worker_low c w
refusal_low c (Notice w v) handed =
    or_low (no_worker c w) (unless (is_dead_worker (worker_at c v)) NotDead) (no_worker_low c w) (unless_low (is_dead_worker (worker_at c v)) NotDead refl)
refusal_low c (NoticeNode w n) handed =
    or_low (no_worker c w) (unless (is_dead_node (node_at c n)) NotDead) (no_worker_low c w) (unless_low (is_dead_node (node_at c n)) NotDead refl)
refusal_low c (Evict n o) handed = store_low (evict_refusal o) (evict_low o) (node_at c n)
refusal_low c (Lose n o) handed = store_low (lose_refusal o) (lose_low o) (node_at c n)
refusal_low c (Kill w) handed = no_worker_low c w
refusal_low c (KillNode n) handed = unless_low (is_live_node (node_at c n)) NoNode refl
refusal_low c Join handed = refl
