-- No cause that the log shows, or that refuses an event before it is tried, has the number of the limits.
use Rattle.std.proofs.Common.{refl, sym, ap, ◌∙◌}
use Rattle.std.proofs.lemmas.Bool.{true≢false}
use Rattle.std.specs.Prelude.{◌≡◌, ℕ, ◌++◌, Bool, true, false, if◌then◌else◌, List, Option, Some, None, is_some, not, ◌&&◌}
use Rattle.std.specs.List.{list_any}
use Rattle.meaning.specs.Values.{Id}
use Rattle.event_log.specs.Causes as causes
use Rattle.event_log.specs.Causes.{shown}
use Rattle.event_log.specs.Entries.{Claim, Commit, Deliver, Entry, Event, Evict, Join, Kill, KillNode, Lose, Notice, NoticeNode, Tick}
use Rattle.event_log.specs.Entries.{Refusal, Pinned, NoCopy, NoWorker, NotReady, NoJob, Stale, NoMessage, NotDead, NoNode, Limit}
use Rattle.event_log.specs.Events.{has_job_out, is_committed, is_killed, is_live, node_is_killed, node_lives, worker_of_job, worker_lives}
use Rattle.event_log.specs.Rules.{Setting}
use Rattle.protocol.specs.Events.{is_live_node, is_live_worker}
use Rattle.protocol.specs.Jobs.{JobRecord, CommitInput}
use Rattle.protocol.specs.Nodes.{Node}
use Rattle.protocol.specs.Numbered.{item_at}
use Rattle.protocol.specs.Refusals as tables
use Rattle.protocol.specs.Refusals.{commit_refusal, is_dead_node, is_dead_worker, is_of_job, is_out_by, is_ready, or_refusal, refusal, store_refusal}
use Rattle.protocol.specs.Stores.{Store, evict_refusal, is_of, lose_refusal}
use Rattle.protocol.specs.Cluster.{ClusterState, node_at, worker_at}

abbrev is_limit : Option Refusal → Bool
is_limit (Some Limit) = true
is_limit _ = false

apart : (o : Option Refusal) → is_limit o ≡ false → o ≡ Some Limit → ⊥
apart o e f = true≢false (sym (ap is_limit f) ∙ e)

-- ---- by the log

by_log : (t : Bool) (code : Refusal) (others : Option Refusal) → is_limit (Some code) ≡ false → is_limit others ≡ false → is_limit (causes.unless t code others) ≡ false
by_log true code others e f = f
by_log false code others e f = e

of_job : (a b d g : Bool) → is_limit (causes.unless a NoJob (causes.unless b NoJob (causes.unless d NoJob (causes.unless g Stale None)))) ≡ false
of_job a b d g = by_log a NoJob _ refl (by_log b NoJob _ refl (by_log d NoJob _ refl (by_log g Stale _ refl refl)))

shows_none : (s : Setting) (log : List Entry) (handed : Bool) (e : Event) → is_limit (shown s log handed e) ≡ false
shows_none s log handed (Claim w) = by_log (is_live w log) NoWorker _ refl (by_log (not (has_job_out w log)) NotReady _ refl refl)
shows_none s log handed (Commit j) = of_job (is_some (worker_of_job j log)) (not (is_committed j log)) handed (worker_lives (worker_of_job j log) log)
shows_none s log handed (Deliver k) = by_log (is_some (s.receiver k)) NoMessage _ refl refl
shows_none s log handed (Tick w) = by_log (is_live w log) NoWorker _ refl refl
shows_none s log handed (Notice w v) = by_log (is_live w log) NoWorker _ refl (by_log (is_killed v log) NotDead _ refl refl)
shows_none s log handed (NoticeNode w n) = by_log (is_live w log) NoWorker _ refl (by_log (node_is_killed n log) NotDead _ refl refl)
shows_none s log handed (Evict n o) = by_log (node_lives s.nodes n log) NoNode _ refl refl
shows_none s log handed (Lose n o) = by_log (node_lives s.nodes n log) NoNode _ refl refl
shows_none s log handed (Kill w) = by_log (is_live w log) NoWorker _ refl refl
shows_none s log handed (KillNode n) = by_log (node_lives s.nodes n log) NoNode _ refl refl
shows_none s log handed Join = refl

pub shown_is_no_limit : (s : Setting) (log : List Entry) (handed : Bool) (e : Event) → shown s log handed e ≡ Some Limit → ⊥
shown_is_no_limit s log handed e f = apart (shown s log handed e) (shows_none s log handed e) f

-- ---- by the tables

one : (t : Bool) (code : Refusal) → is_limit (Some code) ≡ false → is_limit (tables.unless t code) ≡ false
one true code e = refl
one false code e = e

two : (t u : Bool) (code other : Refusal) → is_limit (Some code) ≡ false → is_limit (Some other) ≡ false → is_limit (or_refusal (tables.unless t code) (tables.unless u other)) ≡ false
two true u code other e f = one u other f
two false u code other e f = e

of_given : (c : ClusterState) (j : ℕ) (handed : CommitInput) (g : Option JobRecord) → is_limit (commit_refusal c j handed g) ≡ false
of_given c j handed None = refl
of_given c j handed (Some g) = two (not g.is_committed && is_of_job handed && is_out_by (worker_at c g.worker) j) (is_live_worker (worker_at c g.worker)) NoJob Stale refl refl

of_store : (f : Store → Option Refusal) → ((s : Store) → is_limit (f s) ≡ false) → (o : Option Node) → is_limit (store_refusal f o) ≡ false
of_store f none None = refl
of_store f none (Some x) = by_life x.is_live
  where
    by_life : (t : Bool) → is_limit (if t then f x.store else Some NoNode) ≡ false
    by_life true = none x.store
    by_life false = refl

evicts_none : (o : Id) (s : Store) → is_limit (evict_refusal o s) ≡ false
evicts_none o s = by_copy (list_any (is_of o) s.secondaries) (list_any (is_of o) s.primaries)
  where
    by_copy : (t u : Bool) → is_limit (if t then None else if u then Some Pinned else Some NoCopy) ≡ false
    by_copy true u = refl
    by_copy false true = refl
    by_copy false false = refl

loses_none : (o : Id) (s : Store) → is_limit (lose_refusal o s) ≡ false
loses_none o s = by_copy (list_any (is_of o) (s.primaries ++ s.secondaries))
  where
    by_copy : (t : Bool) → is_limit (if t then None else Some NoCopy) ≡ false
    by_copy true = refl
    by_copy false = refl

refuses_none : (c : ClusterState) (e : Event) (handed : CommitInput) → is_limit (refusal c e handed) ≡ false
refuses_none c (Claim w) handed = two (is_live_worker (worker_at c w)) (is_ready c w) NoWorker NotReady refl refl
refuses_none c (Commit j) handed = of_given c j handed (item_at c.jobs j)
refuses_none c (Deliver k) handed = one (is_some (item_at c.network k)) NoMessage refl
refuses_none c (Tick w) handed = one (is_live_worker (worker_at c w)) NoWorker refl
refuses_none c (Notice w v) handed = two (is_live_worker (worker_at c w)) (is_dead_worker (worker_at c v)) NoWorker NotDead refl refl
refuses_none c (NoticeNode w n) handed = two (is_live_worker (worker_at c w)) (is_dead_node (node_at c n)) NoWorker NotDead refl refl
refuses_none c (Evict n o) handed = of_store (evict_refusal o) (evicts_none o) (node_at c n)
refuses_none c (Lose n o) handed = of_store (lose_refusal o) (loses_none o) (node_at c n)
refuses_none c (Kill w) handed = one (is_live_worker (worker_at c w)) NoWorker refl
refuses_none c (KillNode n) handed = one (is_live_node (node_at c n)) NoNode refl
refuses_none c Join handed = refl

pub refusal_is_no_limit : (c : ClusterState) (e : Event) (handed : CommitInput) → refusal c e handed ≡ Some Limit → ⊥
refusal_is_no_limit c e handed f = apart (refusal c e handed) (refuses_none c e handed) f
