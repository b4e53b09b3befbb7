-- What the laws of holding ask of an event beside its past follows of what the tables know of the log.
use Rattle.std.proofs.Common.{◌≡◌, ℕ, Bool, true, false, List, [], ◌∷◌, ◌++◌, Option, Some, None, refl, sym, ap, ◌∙◌, subst, append-nil}
use Rattle.std.specs.Prelude.{◌||◌, slice_get}
use Rattle.std.specs.List.{list_any}
use Rattle.std.proofs.lemmas.Bool.{true≢false}
use Rattle.event_log.specs.Entries.{Entry, Event, In, Refused}
use Rattle.event_log.specs.Entries.{Refusal}
use Rattle.event_log.specs.Words.{attempt, births, worker_of}
use Rattle.event_log.specs.Events.{accepted_events, from_one, is_killed, kills, node_of, on_node}
use Rattle.event_log.specs.Rules.{Setting}
use Rattle.event_log.proofs.Extending.{node_of-more}
use Rattle.event_log.proofs.WordLaws.{births_push}
use Rattle.holding_steps.proofs.of_holding.Growth.{past_grows}
use Rattle.holding_steps.specs.of_protocol.Numbered.{item_at}
use Rattle.holding_steps.specs.of_protocol.Sets.{object_id}
use Rattle.holding_steps.specs.of_protocol.Messages.{Message, Push, TheWorker}
use Rattle.holding_steps.specs.of_protocol.Nodes.{Node}
use Rattle.holding_steps.specs.of_protocol.Tables.{RunsOn, ObjectSource, WasPut, Beside, ByTask, Object, OwnTask, Worker, task_in, task_of}
use Rattle.holding_steps.specs.of_protocol.Steps.{WorkerContext, own_object}
use Rattle.holding_steps.specs.of_protocol.Cluster.{ClusterState, here, node_at, worker_at}
use Rattle.holding_steps.specs.of_holding.Past.{Fact, Killed, Has}
use Rattle.holding_steps.specs.Clauses.{MessageTrue}
use Rattle.holding_steps.specs.Landing.{DeadOn, IsUntouched, RunsBegun}
use Rattle.holding_steps.specs.Whole.{WholeTrue}
use Rattle.holding_steps.proofs.Answering.{untouched_idle}
use Rattle.protocol_legal.specs.Past.{past}
use Rattle.protocol_legal.specs.Knows.{KnowsSource, KnowsObject, KnowsProgress, KnowsTask, KnowsWorker}
use Rattle.protocol_legal.specs.Whole.{Between, setting_of}
use Rattle.protocol_legal.proofs.FrameIn.{any_join}
use Rattle.protocol_legal.proofs.FrameEnters.{accepts_in}
use Rattle.protocol_legal.proofs.FrameNodesChange.{CameFrom, from_one_from, or_last}
use Rattle.protocol_legal.proofs.FrameWorker.{home_of_worker}

-- ---- who is killed by an event

pub killed_in : (log : List Entry) (e : Event) (seat v n : ℕ) → node_of v log ≡ Some n → kills v n e ≡ true → is_killed v (log ++ In e seat ∷ []) ≡ true
unfolding is_killed
killed_in log e seat v n home k =
    ap (λ o. on_node o false (λ m. list_any (kills v m) (accepted_events (log ++ In e seat ∷ [])))) (node_of-more log (In e seat ∷ []) v n home)
    ∙ ap (list_any (kills v n)) (accepts_in log e seat) ∙ any_join (kills v n) (accepted_events log) (e ∷ [])
    ∙ ap (λ t. list_any (kills v n) (accepted_events log) || (t || false)) k ∙ or_last (list_any (kills v n) (accepted_events log))

-- an event bears nothing yet
pub births_in : (log : List Entry) (e : Event) (seat : ℕ) → births (log ++ In e seat ∷ []) ≡ births log
births_in log e seat = births_push log (In e seat) ∙ append-nil (births log)

-- a refused event
pub refused_true : (log : List Entry) (facts : List Fact) (c : ClusterState) (e : Event) (seat : ℕ) (code : Refusal) → WholeTrue log facts c → WholeTrue (log ++ In e seat ∷ Refused code ∷ []) facts c
refused_true log facts c e seat code t = record {
  joined = past_grows.refused log facts e seat code t.joined;
  workers = t.workers;
  lives = t.lives;
  dead = t.dead;
  opened = t.opened;
  owners = t.owners;
  network = t.network;
  stores = t.stores;
}

module _ (s : Setting) (log : List Entry) (c : ClusterState) (b : Between s log c) where
  -- a worker of the table that the event kills
  pub worker_killed_in : (e : Event) (seat v : ℕ) (x : Worker) → worker_at c v ≡ Some x → kills v x.node e ≡ true → is_killed v (log ++ In e seat ∷ []) ≡ true
  worker_killed_in e seat v x at k = killed_in log e seat v x.node (home_of_worker s log c b v x at) k

  module _ (facts : List Fact) (t : WholeTrue log facts c) (w : ℕ) (x : Worker) (node : Node) (at : worker_at c w ≡ Some x) (live : x.is_live ≡ true) where
    abbrev h : WorkerContext
    h = here c w x node

    known : KnowsWorker (setting_of s c) (past log b.asked) w x
    known = b.knows.workers w x at live

    -- ---- attempts that run

    -- an own attempt runs where it was begun, on a worker of that node
    pub record IsRunning (k v n : ℕ) (task : OwnTask) : Type 0 where
      pub runs : worker_of (attempt (object_id w k) task.number) log ≡ Some v
      pub home : node_of v log ≡ Some n

    runs_as : (k v n : ℕ) (task : OwnTask) (y : Object) → item_at x.objects k ≡ Some y → y.source ≡ ByTask task → task.progress ≡ RunsOn v n → IsRunning k v n task
    runs_as k v n task y i m p =
        let ko : KnowsObject (past log b.asked) x (object_id w k) y = known.objects k y i in
        let kt : KnowsTask (past log b.asked) (object_id w k) x.objects task = (subst (KnowsSource (past log b.asked) x.node x.objects (object_id w k) y) m ko.source).0 in
        let kp : KnowsProgress (past log b.asked) (object_id w k) task (RunsOn v n) = subst (KnowsProgress (past log b.asked) (object_id w k) task) p kt.progress in
        record { runs = ap (λ ws. slice_get ws task.number) kt.begun ∙ kp.0.runs; home = kp.0.home }

    is_running : (k v n : ℕ) (task : OwnTask) → task_of (own_object h k) ≡ Some task → task.progress ≡ RunsOn v n → IsRunning k v n task
    is_running k v n task e p = by_object (item_at x.objects k) refl e
      where
        same : (u : OwnTask) → Some u ≡ Some task → u ≡ task
        same u i = cc

        by_source : (y : Object) → item_at x.objects k ≡ Some y → (m : ObjectSource) → y.source ≡ m → task_in m ≡ Some task → IsRunning k v n task
        by_source y i WasPut m j = absurd (cc)
        by_source y i (Beside u) m j = absurd (cc)
        by_source y i (ByTask u) m j = runs_as k v n task y i (m ∙ ap ByTask (same u j)) p

        by_object : (o : Option Object) → item_at x.objects k ≡ o → task_of o ≡ Some task → IsRunning k v n task
        by_object None i j = absurd (cc)
        by_object (Some y) i j = by_source y i y.source refl j

    pub runs_begun : RunsBegun facts h
    runs_begun k v n task e p = t.joined.tells.runs (attempt (object_id w k) task.number) v (is_running k v n task e p).runs

    -- ---- a node that died

    pub dead_on : (m : ℕ) (d : Node) → node_at c m ≡ Some d → d.is_live ≡ false → DeadOn facts h m
    dead_on m d there dead k v r = by_life u.item.is_live refl
      where
        home : node_of v log ≡ Some m
        home = (is_running k v m r.0 r.1 r.2).home

        u : CameFrom (λ (y : Worker). y.node) (worker_at c v) m
        u = from_one_from (λ (y : Worker). y.node) c.workers v m (sym (ap (λ ns. from_one ns v) b.knows.opened) ∙ home)

        alive : u.item.is_live ≡ true → d.is_live ≡ true
        alive l =
            let z = b.knows.housed v u.item u.at l in
            let same : z.0 ≡ d = (let i : Some z.0 ≡ Some d = sym z.1 ∙ ap (node_at c) u.is ∙ there in cc) in
            ap (λ (y : Node). y.is_live) (sym same) ∙ z.2

        by_life : (l : Bool) → u.item.is_live ≡ l → Has (Killed v) facts
        by_life true l = absurd (true≢false (sym (alive l) ∙ dead))
        by_life false l = t.dead v u.item u.at l

    -- ---- what is pushed

    pub untouched : (m : Message) → MessageTrue facts (TheWorker w) m → IsUntouched facts h m
    untouched (Push a spec) pushed = λ new e z p.
        let runs : worker_of a log ≡ Some w = t.joined.tells.begun a w pushed in
        let idle = known.strangers a runs new in
        untouched_idle log facts t.joined.tells a idle.own idle.ended e z p
    untouched m pushed = tt
