-- What is owed of asks is paid in every run.
use Rattle.std.proofs.Common.{◌≡◌, ℕ, zero, suc, ◌+◌, ◌<◌, ◌≤◌, List, [], ◌∷◌, ◌++◌, length, Some, None, Option, refl, ap, sym, subst, ◌∙◌, inl, inr}
use Rattle.std.proofs.Common.{arith, append-nil}
use Rattle.std.specs.Prelude.{Bool, true, false, if◌then◌else◌, not, ◌==◌, ◌&&◌, ◌||◌}
use Rattle.std.proofs.lemmas.Bool.{eq-eqb}
use Rattle.meaning.specs.Mains.{KeepsMainApart}
use Rattle.meaning.specs.Values.{Argument, Birth, Id, Name, Put, Task, Value}
use Rattle.meaning.proofs.BirthLaws.{first_is_made}
use Rattle.meaning.specs.Births.{Part, part_of, birth_at}
use Rattle.event_log.specs.Entries.{Attempt, Begun, Born, Claim, Commit, Deliver, Entry, Event, Evict, In, Join, Kill, KillNode, Lose, Notice, NoticeNode}
use Rattle.event_log.specs.Entries.{Tick}
use Rattle.event_log.specs.Entries.{Refusal, Limit}
use Rattle.event_log.specs.Words.{attempt, births, next_serial, runs_of}
use Rattle.event_log.specs.Events.{node_is_killed, node_of}
use Rattle.event_log.specs.Breaks.{Among}
use Rattle.event_log.specs.Legal.{Legal}
use Rattle.event_log.specs.Sane.{Sane}
use Rattle.event_log.proofs.FreshLaws.{born_if_first}
use Rattle.event_log.proofs.SaneLaws.{legal_logs_are_sane}
use Rattle.event_log.specs.Rules.{Setting}
use Rattle.protocol.specs.Numbered.{changed_at, item_at}
use Rattle.protocol.specs.Sets.{has, is_empty, object_id}
use Rattle.protocol.specs.Messages.{Ask, Elsewhere, Give, Envelope, Message, Endpoint, Push, TheNode, TheWorker, envelope}
use Rattle.protocol.specs.Jobs.{JobRecord, CommitInput, Nothing, OfAnother, OfJob}
use Rattle.protocol.specs.Nodes.{AskReply, Leased, Node, Outbox, Queued, SentOn, NodeContext}
use Rattle.protocol.specs.Slots.{ask_key, forgets, node_reached}
use Rattle.protocol.specs.Tables.{AskedAt, AtRest, Beside, ByTask, ObjectSource, Object, OwnTask, Progress, RunsOn, WasPut, Worker, task_in, task_of}
use Rattle.protocol.specs.Steps.{WorkerContext, object_at, own_object}
use Rattle.protocol.specs.Asking.{if_asked, stands_at}
use Rattle.protocol.specs.Releases.{release_step}
use Rattle.protocol.specs.Deliveries.{reached}
use Rattle.protocol.specs.Cluster.{Transition, ClusterState, here, moved, node_at, node_does, node_does_by, worker_at, worker_does, worker_does_at, worker_does_by}
use Rattle.protocol.specs.Commits.{claim_step, commit_step}
use Rattle.protocol.specs.Notices.{notice_node_step, notice_step}
use Rattle.protocol.specs.Ticks.{tick_step}
use Rattle.protocol.specs.Events.{committed_by, dead, delivered_by, delivered_to, happens, is_live_node, is_live_worker, killed_by, with_committed, objects_made}
use Rattle.protocol.specs.Events.{with_delivered}
use Rattle.protocol.specs.Answers.{Answer, Refuses, Step, Takes, answer, decided, given_out, logged, takes, whole_after}
use Rattle.protocol.specs.Refusals.{is_within_limits, refusal}
use Rattle.lease_discipline.specs.of_protocol_legal.Past.{past}
use Rattle.lease_discipline.specs.of_protocol_legal.Knows.{IsBegun, KnowsSource, KnowsProgress, KnowsTask, KnowsWorker}
use Rattle.lease_discipline.specs.of_protocol_legal.Lost.{RisingTo}
use Rattle.lease_discipline.specs.of_protocol_legal.Whole.{Between, setting_of}
use Rattle.lease_discipline.specs.of_protocol_laws.Coming.{IsRight}
use Rattle.protocol_owed.specs.Replies.{IsUnbegun}
use Rattle.protocol_owed.specs.Runs.{Handing, Running, after_event, after_events, answer_to, opening_run, seen}
use Rattle.protocol_owed.specs.Seen.{IsCalm, Sends}
use Rattle.protocol_owed.proofs.Asks.{Stands}
use Rattle.protocol_owed.proofs.Counting.{happens-counted, no_event}
use Rattle.protocol_owed.proofs.Envelopes.{among-append_cases}
use Rattle.protocol_owed.proofs.Nodes.{NodesAreRight, nothing_past}
use Rattle.protocol_owed.proofs.Opening.{opens-right, runs-right}
use Rattle.protocol_owed.proofs.Replying.{elsewhere_is_asked, give_is_begun}
use Rattle.lease_discipline.specs.Asks.{Asked, IsDeadNode, IsLast, IsPassed, KeepsAsks, Touched}
use Rattle.lease_discipline.specs.Slots.{AreRight}
use Rattle.lease_discipline.specs.Told.{IsInStep}
use Rattle.lease_discipline.proofs.AskEvents.{answer_asked}
use Rattle.lease_discipline.proofs.AskLaw.{law_of_last_asks}
use Rattle.lease_discipline.proofs.Events.{among_at}
use Rattle.lease_discipline.proofs.Told.{events_stay_in_step, lives_there, opening_is_in_step, locations}
use Rattle.owed_asks.specs.Law.{BirthsAreAsked, ElsewheresAreAsked, GivesAreBegun}
use Rattle.owed_asks.specs.Routes.{KeepsRoutes, is_new, rests_now}
use Rattle.owed_asks.proofs.RouteEvents.{events_keep_routes, opening_keeps_routes}
use Rattle.owed_asks.proofs.Splits.{at_most_or_more, begun_there, birth_stands, born_behind, calm_before, calm_live, calm_node, calm_unbroken}
use Rattle.owed_asks.proofs.Splits.{item_below, some_serial}

-- ---- an accepted event

pub record IsTaken (c : ClusterState) (e : Event) (handed : CommitInput) (step : Step) : Type 0 where
  pub whole : step.whole ≡ (happens c e handed).whole
  pub entries : step.entries ≡ (happens c e handed).out.entries
  pub envelopes : step.envelopes ≡ (happens c e handed).out.envelopes

same_step : (s t : Step) → ◌≡◌ {A = Answer} (Takes s) (Takes t) → s ≡ t
same_step s t e = cc

taken_by : (c : ClusterState) (e : Event) (handed : CommitInput) (step : Step) (b : Bool) →
    (if b then takes (happens c e handed) (given_out c e) else Refuses Limit) ≡ Takes step → IsTaken c e handed step
taken_by c e handed step false f = absurd (cc)
taken_by c e handed step true f =
    let is = same_step _ step f in
    record { whole = ap (λ (s : Step). s.whole) (sym is); entries = ap (λ (s : Step). s.entries) (sym is); envelopes = ap (λ (s : Step). s.envelopes) (sym is) }

taken_so : (c : ClusterState) (e : Event) (handed : CommitInput) (step : Step) (code : Option Refusal) → decided c e handed code ≡ Takes step → IsTaken c e handed step
taken_so c e handed step None f = taken_by c e handed step (is_within_limits (happens c e handed).whole) f
taken_so c e handed step (Some code) f = absurd (cc)

pub is_taken : (c : ClusterState) (e : Event) (handed : CommitInput) (step : Step) → answer c e handed ≡ Takes step → IsTaken c e handed step
is_taken c e handed step f = taken_so c e handed step (refusal c e handed) f

-- what a delivery to a live worker makes
pub delivery : (c : ClusterState) (k w : ℕ) (from : Endpoint) (m : Message) (x : Worker) (node : Node) → item_at c.network k ≡ Some (envelope from (TheWorker w) m) →
    worker_at c w ≡ Some x → x.is_live ≡ true → node_at c x.node ≡ Some node → (handed : CommitInput) →
    (happens c (Deliver k) handed).out ≡ (release_step (reached (here c w x node) from m)).there.out
delivery c k w from m x node sent at live home handed =
    let d : ClusterState = with_delivered c k in
    let f : WorkerContext → WorkerContext = λ h. reached h from m in
    ap (λ y. (delivered_by c k y).out) sent ∙ ap (λ y. (if is_live_worker y then worker_does d w f else moved d).out) at ∙
    ap (λ b. (if b then worker_does d w f else moved d).out) live ∙ ap (λ y. (worker_does_by d w f y).out) at ∙
    ap (λ y. (worker_does_at d w x f y).out) home

-- the network grows by what is sent
none_sent : (ls : List Envelope) → ls ≡ ls ++ []
none_sent ls = sym (append-nil ls)

worker_network : (c : ClusterState) (w : ℕ) (f : WorkerContext → WorkerContext) → (worker_does c w f).whole.network ≡ c.network ++ (worker_does c w f).out.envelopes
worker_network c w f = by_worker (worker_at c w)
  where
    by_node : (x : Worker) (o : Option Node) → (worker_does_at c w x f o).whole.network ≡ c.network ++ (worker_does_at c w x f o).out.envelopes
    by_node x None = none_sent c.network
    by_node x (Some node) = refl

    by_worker : (o : Option Worker) → (worker_does_by c w f o).whole.network ≡ c.network ++ (worker_does_by c w f o).out.envelopes
    by_worker None = none_sent c.network
    by_worker (Some x) = by_node x (node_at c x.node)

node_network : (c : ClusterState) (n : ℕ) (f : NodeContext → NodeContext) → (node_does c n f).whole.network ≡ c.network ++ (node_does c n f).out.envelopes
node_network c n f = by_node (node_at c n)
  where
    by_node : (o : Option Node) → (node_does_by c n f o).whole.network ≡ c.network ++ (node_does_by c n f o).out.envelopes
    by_node None = none_sent c.network
    by_node (Some node) = refl

either_network : (c : ClusterState) (b : Bool) (m n : Transition) → m.whole.network ≡ c.network ++ m.out.envelopes → n.whole.network ≡ c.network ++ n.out.envelopes →
    (if b then m else n).whole.network ≡ c.network ++ (if b then m else n).out.envelopes
either_network c true m n p q = p
either_network c false m n p q = q

delivered_network : (c : ClusterState) (k : ℕ) (o : Option Envelope) → (delivered_by c k o).whole.network ≡ c.network ++ (delivered_by c k o).out.envelopes
delivered_network c k None = none_sent c.network
delivered_network c k (Some l) = by_endpoint l.receiver
  where
    by_endpoint : (p : Endpoint) → (delivered_to (with_delivered c k) l p).whole.network ≡ c.network ++ (delivered_to (with_delivered c k) l p).out.envelopes
    by_endpoint (TheWorker w) =
        either_network c (is_live_worker (worker_at c w)) (worker_does (with_delivered c k) w (λ h. reached h l.sender l.message)) (moved
        (with_delivered c k))
        (worker_network (with_delivered c k) w (λ h. reached h l.sender l.message)) (none_sent c.network)
    by_endpoint (TheNode n) =
        either_network c (is_live_node (node_at c n)) (node_does (with_delivered c k) n (λ h. node_reached h l.sender l.message)) (moved (with_delivered c k))
        (node_network (with_delivered c k) n (λ h. node_reached h l.sender l.message)) (none_sent c.network)

committed_network : (c : ClusterState) (j : ℕ) (handed : CommitInput) (g : Option JobRecord) →
    (committed_by c j handed g).whole.network ≡ c.network ++ (committed_by c j handed g).out.envelopes
committed_network c j (OfJob d) (Some g) = worker_network (with_committed c j (objects_made d.births)) g.worker (λ h. commit_step h d)
committed_network c j (OfJob d) None = none_sent c.network
committed_network c j Nothing g = none_sent c.network
committed_network c j OfAnother g = none_sent c.network

killed_network : (c : ClusterState) (w : ℕ) (o : Option Worker) → (killed_by c w o).whole.network ≡ c.network ++ (killed_by c w o).out.envelopes
killed_network c w None = none_sent c.network
killed_network c w (Some x) = node_network (record c { workers = changed_at c.workers w dead }) x.node (λ h. forgets h w)

pub happens_network : (c : ClusterState) (e : Event) (handed : CommitInput) → (happens c e handed).whole.network ≡ c.network ++ (happens c e handed).out.envelopes
happens_network c (Claim w) handed =
    worker_network (record c { jobs = c.jobs ++ record { worker = w; is_committed = false } ∷ [] }) w (λ h. claim_step h (length c.jobs + 1))
happens_network c (Commit j) handed = committed_network c j handed (item_at c.jobs j)
happens_network c (Deliver k) handed = delivered_network c k (item_at c.network k)
happens_network c (Tick w) handed = worker_network c w tick_step
happens_network c (Notice w v) handed = worker_network c w (λ h. notice_step h v)
happens_network c (NoticeNode w n) handed = worker_network c w (λ h. notice_node_step h n)
happens_network c (Evict n o) handed = none_sent c.network
happens_network c (Lose n o) handed = none_sent c.network
happens_network c (Kill w) handed = killed_network c w (worker_at c w)
happens_network c (KillNode n) handed = none_sent c.network
happens_network c Join handed = none_sent c.network

-- ---- a run

pub record RunKeeps (s : Setting) (r : Running) : Type 0 where
  pub step : IsInStep s r.log r.whole
  pub right : NodesAreRight r.whole
  pub asks : KeepsAsks r.whole
  pub routes : KeepsRoutes r.whole

in_step : (s : Setting) → KeepsMainApart s.script → (r : Running) (gs : List Handing) → IsInStep s r.log r.whole → AreRight s r gs →
    IsInStep s (after_events r gs).log (after_events r gs).whole
in_step s apart r [] k right = k
in_step s apart r (g ∷ gs) k right =
    in_step s apart (after_event r g) gs (events_stay_in_step s apart r.log r.whole g.event g.seat g.handed k right.0) right.1

routes_stay : (r : Running) (gs : List Handing) → KeepsRoutes r.whole → KeepsRoutes (after_events r gs).whole
routes_stay r [] k = k
routes_stay r (g ∷ gs) k = routes_stay (after_event r g) gs (events_keep_routes r.whole g.event g.handed k)

pub runs_keep : (s : Setting) (slots : ℕ) → 0 < s.nodes → 1 ≤ slots → KeepsMainApart s.script → (gs : List Handing) →
    AreRight s (opening_run s.nodes slots) gs → RunKeeps s (after_events (opening_run s.nodes slots) gs)
runs_keep s slots some slot apart gs right = record {
  step = in_step s apart (opening_run s.nodes slots) gs (opening_is_in_step s slots some) right;
  right = runs-right (opening_run s.nodes slots) gs (opens-right s.nodes slots slot);
  asks = law_of_last_asks s.nodes slots some slot gs;
  routes = routes_stay (opening_run s.nodes slots) gs (opening_keeps_routes s.nodes slots);
}

pub one_more : (r : Running) (gs : List Handing) (g : Handing) → after_events r (gs ++ g ∷ []) ≡ after_event (after_events r gs) g
one_more r [] g = refl
one_more r (h ∷ gs) g = one_more (after_event r h) gs g

pub all_right : (s : Setting) (r : Running) (gs : List Handing) (g : Handing) → AreRight s r gs → IsRight s (after_events r gs).whole g.event g.handed →
    AreRight s r (gs ++ g ∷ [])
all_right s r [] g right is = (is, tt)
all_right s r (h ∷ gs) g right is = (right.0, all_right s (after_event r h) gs g right.1 is)

pub next_keeps : (s : Setting) (slots : ℕ) → 0 < s.nodes → 1 ≤ slots → KeepsMainApart s.script → (gs : List Handing) →
    AreRight s (opening_run s.nodes slots) gs → (g : Handing) → IsRight s (after_events (opening_run s.nodes slots) gs).whole g.event g.handed →
    RunKeeps s (after_event (after_events (opening_run s.nodes slots) gs) g)
next_keeps s slots some slot apart gs right g is =
    subst (RunKeeps s) (one_more (opening_run s.nodes slots) gs g)
    (runs_keep s slots some slot apart (gs ++ g ∷ []) (all_right s (opening_run s.nodes slots) gs g right is))

-- ---- a calm run

-- an answer that stands is one
one_answer : (o : Option AskReply) (a : Attempt) (t v m : ℕ) → Stands o (ask_key a t) (Give a t v) → Stands o (ask_key a t) (Elsewhere a t m) → ⊥
unfolding Stands
one_answer None a t v m p q = p
one_answer (Some (Leased w)) a t v m p (inl e) = absurd (cc)
one_answer (Some (Leased w)) a t v m p (inr (u, e, f)) = absurd (cc)
one_answer (Some (SentOn w)) a t v m (inl e) q = absurd (cc)
one_answer (Some (SentOn w)) a t v m (inr (u, e, f)) q = absurd (cc)
one_answer (Some Queued) a t v m (inl e) q = absurd (cc)
one_answer (Some Queued) a t v m (inr (u, e, f)) q = absurd (cc)

module _ (s : Setting) (r : Running) (keeps : RunKeeps s r) (calm : IsCalm r.log) where
  abbrev c : ClusterState
  c = r.whole

  abbrev b : Between s r.log r.whole
  b = keeps.step.sound.between

  pub live_worker : (w : ℕ) (x : Worker) → worker_at c w ≡ Some x → x.is_live ≡ true
  live_worker w x at = sym (b.knows.lives w x at) ∙ calm_live r.log w x.node calm (locations s r.log c b w x at)

  negated : (t : Bool) → not t ≡ false → t ≡ true
  negated true e = refl
  negated false e = absurd (cc)

  pub live_node : (n : ℕ) (node : Node) → node_at c n ≡ Some node → node.is_live ≡ true
  live_node n node at = negated node.is_live (sym (b.knows.node_lives n node at) ∙ calm_node r.log n calm)

  pub knows : (w : ℕ) (x : Worker) → worker_at c w ≡ Some x → KnowsWorker (setting_of s c) (past r.log b.asked) w x
  knows w x at = b.knows.workers w x at (live_worker w x at)

  -- it takes no node for dead
  pub no_dead : (w : ℕ) (x : Worker) → worker_at c w ≡ Some x → x.dead_nodes ≡ []
  no_dead w x at = none x.dead_nodes (λ n e. (knows w x at).dead_nodes n e)
    where
      none : (ns : List ℕ) → ((n : ℕ) → has ns n ≡ true → node_is_killed n r.log ≡ true) → ns ≡ []
      none [] f = refl
      none (n ∷ ns) f =
          let first : has (n ∷ ns) n ≡ true = ap (λ t. t || has ns n) (eq-eqb n n refl) in
          let killed = f n first in
          let alive = calm_node r.log n calm in
          absurd (cc)

  -- an object that the table has
  pub record IsOwned (w k : ℕ) (x : Worker) (task : OwnTask) : Type 0 where
    pub object : Object
    pub at : item_at x.objects k ≡ Some object
    pub knows : KnowsTask (past r.log b.asked) (object_id w k) x.objects task

  pub owned_task : (w k : ℕ) (x : Worker) (task : OwnTask) → worker_at c w ≡ Some x → task_of (item_at x.objects k) ≡ Some task → IsOwned w k x task
  owned_task w k x task there e = by_object (item_at x.objects k) refl e
    where
      by_source : (object : Object) → item_at x.objects k ≡ Some object → (source : ObjectSource) →
          KnowsSource (past r.log b.asked) x.node x.objects (object_id w k) object source →
          task_in source ≡ Some task → IsOwned w k x task
      by_source object at WasPut q f = absurd (cc)
      by_source object at (ByTask other) q f =
          let same : other ≡ task = cc in
          record { object = object; at = at; knows = subst (KnowsTask (past r.log b.asked) (object_id w k) x.objects) same q.0 }
      by_source object at (Beside j) q f = absurd (cc)

      by_object : (o : Option Object) → item_at x.objects k ≡ o → task_of o ≡ Some task → IsOwned w k x task
      by_object None at f = absurd (cc)
      by_object (Some object) at f = by_source object at object.source ((knows w x there).objects k object at).source f

  -- ---- an attempt that was asked for, and not begun

  pub record IsAskedFor (a : Attempt) : Type 0 where
    pub owner : Worker
    pub there : worker_at c a.object.owner ≡ Some owner
    pub task : OwnTask
    pub own : task_of (item_at owner.objects a.object.serial) ≡ Some task
    pub number : task.number ≡ a.number
    pub hops : ℕ
    pub node : ℕ
    pub stands : task.progress ≡ AskedAt hops node
    pub spec : birth_at (births r.log) a.object ≡ Some task.spec

  not_begun : (a : Attempt) → IsUnbegun (seen s r) a → a.number < length (runs_of a.object r.log) → ⊥
  not_begun a unbegun less =
      let w = item_below (runs_of a.object r.log) a.number less in
      unbegun w.0 (begun_there r.log keeps.step.sound.past keeps.step.sound.held.joined.tells a w.0 w.1)

  pub asked_for : (a : Attempt) → IsUnbegun (seen s r) a → Touched c.network a → IsAskedFor a
  asked_for a unbegun touched =
      let x = keeps.asks.owned a touched in
      by_task x.0 x.1 (task_of (item_at x.0.objects a.object.serial)) refl
    where
      by_progress : (x : Worker) → worker_at c a.object.owner ≡ Some x → (task : OwnTask) → task_of (item_at x.objects a.object.serial) ≡ Some task →
          runs_of a.object r.log ≡ task.begun → birth_at (births r.log) a.object ≡ Some task.spec → a.number ≤ task.number →
          (p : Progress) → task.progress ≡ p → KnowsProgress (past r.log b.asked) a.object task p → IsAskedFor a
      by_progress x there task own begun spec most AtRest e q =
          let count : length task.begun ≡ task.number + 1 = q.2.count in
          let same : length (runs_of a.object r.log) ≡ length task.begun = ap (λ ws. length ws) begun in
          absurd (not_begun a unbegun (omega (arith, count, same, most)))
      by_progress x there task own begun spec most (RunsOn w n) e q =
          let count : length task.begun ≡ task.number + 1 = q.0.count in
          let same : length (runs_of a.object r.log) ≡ length task.begun = ap (λ ws. length ws) begun in
          absurd (not_begun a unbegun (omega (arith, count, same, most)))
      by_progress x there task own begun spec most (AskedAt t n) e q =
          let count : length task.begun ≡ task.number = q.0 in
          let same : length (runs_of a.object r.log) ≡ length task.begun = ap (λ ws. length ws) begun in
          elim (at_most_or_more task.number a.number) [
            | inl le ↦ record {
              owner = x;
              there = there;
              task = task;
              own = own;
              number = omega (arith, le, most);
              hops = t;
              node = n;
              stands = e;
              spec = spec;
            }
            | inr less ↦ absurd (not_begun a unbegun (omega (arith, count, same, less)))
          ]

      by_task : (x : Worker) → worker_at c a.object.owner ≡ Some x → (o : Option OwnTask) → task_of (item_at x.objects a.object.serial) ≡ o → IsAskedFor a
      by_task x there None e = absurd ((keeps.asks.owners a.object.owner x there).none a.object.serial a.number e touched)
      by_task x there (Some task) e = elim (at_most_or_more a.number task.number) [
        | inl le ↦
            let owned : IsOwned a.object.owner a.object.serial x task = owned_task a.object.owner a.object.serial x task there e in
            by_progress x there task e owned.knows.begun owned.knows.spec le task.progress refl owned.knows.progress
        | inr less ↦ absurd ((keeps.asks.owners a.object.owner x there).later a.object.serial a.number task e less touched)
      ]

  -- what stands is the last ask
  last_ask : (a : Attempt) (q : IsAskedFor a) → IsLast (IsDeadNode c) c.network a q.hops q.node
  last_ask a q =
      subst (λ i. IsLast (IsDeadNode c) c.network i q.hops q.node) (ap (attempt a.object) q.number)
      ((keeps.asks.owners a.object.owner q.owner q.there).stands a.object.serial q.task q.hops q.node q.own q.stands)

  alive : (n : ℕ) → IsDeadNode c n → ⊥
  alive n (node, at, off) = let live = live_node n node at in absurd (cc)

  asked_now : (a : Attempt) (q : IsAskedFor a) (t : ℕ) → q.hops ≡ t → if_asked t a q.task ≡ true
  asked_now a q t same =
      let numbers : (q.task.number == a.number) ≡ true = ap (λ i. i == a.number) q.number ∙ eq-eqb a.number a.number refl in
      let stands : stands_at q.task.progress t ≡ true = ap (λ p. stands_at p t) q.stands ∙ ap (λ i. i == t) same ∙ eq-eqb t t refl in
      ap (λ u. u && stands_at q.task.progress t) numbers ∙ stands

  -- the object in the owner's table, as its event finds it
  found : (a : Attempt) (q : IsAskedFor a) (node : Node) → task_of (object_at (here c a.object.owner q.owner node) a.object) ≡ Some q.task
  found a q node = ap (λ u. task_of (if u then own_object (here c a.object.owner q.owner node) a.object.serial else None)) (eq-eqb a.object.owner a.object.owner refl) ∙ q.own

  home : (w : ℕ) (x : Worker) → worker_at c w ≡ Some x → (node : Node) × (node_at c x.node ≡ Some node)
  home w x at = keeps.step.leases.homes w x at

  same_worker : (v w : ℕ) → ◌≡◌ {A = Endpoint} (TheWorker v) (TheWorker w) → v ≡ w
  same_worker v w e = cc

  -- ---- a Give

  record IsDone (a : Attempt) (t v n : ℕ) (spec : Birth) (k : ℕ) (handed : CommitInput) : Type 0 where
    logs : Among (Begun a v) (happens c (Deliver k) handed).out.entries
    sends : Sends (happens c (Deliver k) handed).out.envelopes (TheWorker a.object.owner) (TheWorker v) (Push a spec)

  give : (n : ℕ) (a : Attempt) (t v k : ℕ) (spec : Birth) (handed : CommitInput) →
      item_at c.network k ≡ Some (envelope (TheNode n) (TheWorker a.object.owner) (Give a t v)) →
      IsUnbegun (seen s r) a → birth_at (births r.log) a.object ≡ Some spec → IsDone a t v n spec k handed
  give n a t v k spec handed sent unbegun born =
      let came = among_at c.network k _ sent in
      let asked : Asked c.network a t n = answer_asked c keeps.right keeps.asks n t a (Give a t v) (inl (v, refl)) came in
      let q : IsAskedFor a = asked_for a unbegun (inl (t, n, asked)) in
      let now : q.hops ≡ t = elim (last_ask a q t n asked) [
        | inl (same, _) ↦ sym same
        | inr (_, passed) ↦ absurd (unpassed came passed)
      ] in
      let node = home a.object.owner q.owner q.there in
      let h : WorkerContext = here c a.object.owner q.owner node.0 in
      let done = give_is_begun h n a t v q.task (found a q node.0) (asked_now a q t now) in
      let is : attempt a.object q.task.number ≡ a = ap (attempt a.object) q.number in
      let out = delivery c k a.object.owner (TheNode n) (Give a t v) q.owner node.0 sent q.there (live_worker a.object.owner q.owner q.there) node.1 handed in
      let specs : q.task.spec ≡ spec = same_birth q.task.spec spec (sym q.spec ∙ born) in
      record {
        logs = subst (λ o. Among (Begun a v) o.entries) (sym out) (subst (λ i. Among (Begun i v) (release_step (reached h (TheNode n)
            (Give a t v))).there.out.entries) is done.0);
        sends = subst (λ o. Sends o.envelopes (TheWorker a.object.owner) (TheWorker v) (Push a spec)) (sym out)
            (subst (λ y. Sends (release_step (reached h (TheNode n) (Give a t v))).there.out.envelopes (TheWorker a.object.owner) (TheWorker v)
            (Push a y)) specs
            (subst (λ i. Sends (release_step (reached h (TheNode n) (Give a t v))).there.out.envelopes (TheWorker a.object.owner) (TheWorker v)
            (Push i q.task.spec)) is done.1));
      }
    where
      same_birth : (x y : Birth) → ◌≡◌ {A = Option Birth} (Some x) (Some y) → x ≡ y
      same_birth x y e = cc

      unpassed : Among (envelope (TheNode n) (TheWorker a.object.owner) (Give a t v)) c.network →
          IsPassed (IsDeadNode c) c.network a t n → ⊥
      unpassed came (inr dead) = alive n dead
      unpassed came (inl (m, on)) =
          let x = keeps.right.senders _ n came refl in
          let told = (keeps.right.each n x.0 x.1).replies.told in
          one_answer _ a t v m (told a t (Give a t v) (inl (v, refl)) came) (told a t (Elsewhere a t m) (inr (inl (m, refl))) on)

  pub give_is_paid : (n w : ℕ) (a : Attempt) (t v k : ℕ) (spec : Birth) (handed : CommitInput) →
      item_at c.network k ≡ Some (envelope (TheNode n) (TheWorker w) (Give a t v)) →
      IsUnbegun (seen s r) a → birth_at (births r.log) a.object ≡ Some spec →
      Among (Begun a v) (happens c (Deliver k) handed).out.entries ×
      Sends (happens c (Deliver k) handed).out.envelopes (TheWorker w) (TheWorker v) (Push a spec)
  give_is_paid n w a t v k spec handed sent unbegun born =
      let own : w ≡ a.object.owner = same_worker w a.object.owner (keeps.routes.envelopes _ (among_at c.network k _ sent)) in
      let d : IsDone a t v n spec k handed = give n a t v k spec handed (subst (λ u. item_at c.network k ≡ Some (envelope (TheNode n) (TheWorker u)
      (Give a t v))) own sent) unbegun born in
      (d.logs, subst (λ u. Sends (happens c (Deliver k) handed).out.envelopes (TheWorker u) (TheWorker v) (Push a spec)) (sym own) d.sends)

  -- ---- an Elsewhere

  -- each ask below one that was sent was sent
  asked_below : (a : Attempt) (t i n : ℕ) → Asked c.network a (t + i) n → (m : ℕ) × Asked c.network a t m
  asked_below a t zero n e = let same : t + 0 ≡ t = omega arith in (n, subst (λ u. Asked c.network a u n) same e)
  asked_below a t (suc i) n e =
      let same : t + suc i ≡ (t + i) + 1 = omega arith in
      let f = keeps.routes.follow a (t + i) n (subst (λ u. Asked c.network a u n) same e) in
      asked_below a t i f.0 f.1

  elsewhere : (n : ℕ) (a : Attempt) (t m k : ℕ) (handed : CommitInput) →
      item_at c.network k ≡ Some (envelope (TheNode n) (TheWorker a.object.owner) (Elsewhere a t m)) →
      ((j : ℕ) → Sends c.network (TheWorker a.object.owner) (TheNode j) (Ask a (t + 1)) → ⊥) → IsUnbegun (seen s r) a →
      Sends (happens c (Deliver k) handed).out.envelopes (TheWorker a.object.owner) (TheNode m) (Ask a (t + 1))
  elsewhere n a t m k handed sent latest unbegun =
      let came = among_at c.network k _ sent in
      let asked : Asked c.network a t n = answer_asked c keeps.right keeps.asks n t a (Elsewhere a t m) (inr (inl (m, refl))) came in
      let q : IsAskedFor a = asked_for a unbegun (inl (t, n, asked)) in
      let now : q.hops ≡ t = elim (last_ask a q t n asked) [ inl (same, _) ↦ sym same | inr (less, _) ↦ absurd (earlier q less) ] in
      let node = home a.object.owner q.owner q.there in
      let h : WorkerContext = here c a.object.owner q.owner node.0 in
      let done = elsewhere_is_asked h n a t m q.task (found a q node.0) (asked_now a q t now) (no_dead a.object.owner q.owner q.there) in
      let is : attempt a.object q.task.number ≡ a = ap (attempt a.object) q.number in
      let out = delivery c k a.object.owner (TheNode n) (Elsewhere a t m) q.owner node.0 sent q.there
      (live_worker a.object.owner q.owner q.there) node.1 handed in
      subst (λ o. Sends o.envelopes (TheWorker a.object.owner) (TheNode m) (Ask a (t + 1))) (sym out)
      (subst (λ i. Sends (release_step (reached h (TheNode n) (Elsewhere a t m))).there.out.envelopes (TheWorker a.object.owner) (TheNode m) (Ask i
      (t + 1))) is done)
    where
      earlier : (q : IsAskedFor a) → t < q.hops → ⊥
      earlier q less =
          let standing : Asked c.network a q.hops q.node =
          subst (λ i. Asked c.network i q.hops q.node) (ap (attempt a.object) q.number)
          ((keeps.routes.owners a.object.owner q.owner q.there).standing a.object.serial q.task q.hops q.node q.own q.stands) in
          let gap = gap_of t q.hops less in
          let f = asked_below a (t + 1) gap.0 q.node (subst (λ u. Asked c.network a u q.node) gap.1 standing) in
          let by = same_worker f.1.0 a.object.owner (keeps.routes.envelopes _ f.1.1) in
          latest f.0 (subst (λ u. Sends c.network (TheWorker u) (TheNode f.0) (Ask a (t + 1))) by f.1.1)
        where
          gap_of : (t u : ℕ) → t < u → (i : ℕ) × (u ≡ t + 1 + i)
          gap_of t zero e = absurd (omega (arith, e))
          gap_of zero (suc u) e = (u, omega arith)
          gap_of (suc t) (suc u) e = let g = gap_of t u (omega (arith, e)) in let f = g.1 in (g.0, omega (arith, f))

  pub elsewhere_is_paid : (n w : ℕ) (a : Attempt) (t m k : ℕ) (handed : CommitInput) →
      item_at c.network k ≡ Some (envelope (TheNode n) (TheWorker w) (Elsewhere a t m)) →
      ((j : ℕ) → Sends c.network (TheWorker a.object.owner) (TheNode j) (Ask a (t + 1)) → ⊥) → IsUnbegun (seen s r) a →
      Sends (happens c (Deliver k) handed).out.envelopes (TheWorker w) (TheNode m) (Ask a (t + 1))
  elsewhere_is_paid n w a t m k handed sent latest unbegun =
      let own : w ≡ a.object.owner = same_worker w a.object.owner (keeps.routes.envelopes _ (among_at c.network k _ sent)) in
      subst (λ u. Sends (happens c (Deliver k) handed).out.envelopes (TheWorker u) (TheNode m) (Ask a (t + 1))) (sym own)
      (elsewhere n a t m k handed (subst (λ u. item_at c.network k ≡ Some (envelope (TheNode n) (TheWorker u) (Elsewhere a t m))) own sent) latest unbegun)

-- ---- births

module _ (s : Setting) (r : Running) (keeps : RunKeeps s r) (calm : IsCalm r.log) (log : List Entry) (next : ClusterState)
    (step : IsInStep s log next) (asks : KeepsAsks next) (routes : KeepsRoutes next) (still : IsCalm log)
    (event : Event) (seat : ℕ) (entries : List Entry) (envelopes : List Envelope)
    (grows : log ≡ r.log ++ In event seat ∷ entries) (sends : next.network ≡ r.whole.network ++ envelopes) where
  after : Running
  after = record { whole = next; log = log }

  abbrev d : Between s log next
  d = step.sound.between

  legal : Legal (setting_of s next) log
  legal = d.legal

  no_break : (o : Id) (number cut : ℕ) → RisingTo log o number cut → number ≡ 0
  no_break o zero cut e = refl
  no_break o (suc number) cut e = absurd (calm_unbroken (attempt o number) log e.0 still e.2)

  -- what was born in the event was never asked for before
  unasked : (o : Id) (a : Attempt) (birth : Birth) → Among (Born o a birth) entries → (n : ℕ) → Asked r.whole.network (attempt o 0) 0 n → ⊥
  unasked o a birth born n asked =
      let touched : Touched r.whole.network (attempt o 0) = inl (0, n, asked) in
      let x = keeps.asks.owned (attempt o 0) touched in
      let k = knows s r keeps calm o.owner x.0 x.1 in
      let first : Legal (setting_of s r.whole) r.log = keeps.step.sound.between.legal in
      let new : next_serial o.owner (births r.log) ≤ o.serial =
      born_behind (setting_of s next) r.log event seat entries (subst (Legal (setting_of s next)) grows legal) first.rest first.begins o a birth
      born in
      let serial : next_serial o.owner (births r.log) ≡ length x.0.objects + 1 = k.serial in
      let none : item_at x.0.objects o.serial ≡ None = nothing_past x.0.objects o.serial (omega (arith, new, serial)) in
      (keeps.asks.owners o.owner x.0 x.1).none o.serial 0 (ap task_of none) touched

  -- a task of the table was asked for at the worker's own node, and by it alone
  asked_first : (o : Id) (x : Worker) → worker_at next o.owner ≡ Some x → (task : OwnTask) → task_of (item_at x.objects o.serial) ≡ Some task →
      (k : KnowsWorker (setting_of s next) (past log d.asked) o.owner x) → Sends next.network (TheWorker o.owner) (TheNode x.node) (Ask (attempt o 0) 0)
  asked_first o x at task own k = by_object (item_at x.objects o.serial) refl own
    where
      by_progress : (p : Progress) → task.progress ≡ p → KnowsProgress (past log d.asked) o task p → (task.number ≡ 0) × (is_new task ≡ false)
      by_progress AtRest e q =
          let begun : IsBegun (past log d.asked) o task q.0 q.1 = q.2 in
          (no_break o task.number begun.place begun.rising, some_begun begun.count)
        where
          some_begun : length task.begun ≡ task.number + 1 → is_new task ≡ false
          some_begun count = by_list task.begun refl
            where
              by_list : (ws : List ℕ) → task.begun ≡ ws → is_new task ≡ false
              by_list [] f = let g : length task.begun ≡ 0 = ap (λ us. length us) f in absurd (omega (arith, count, g))
              by_list (w ∷ ws) f = ap (λ pr. rests_now pr && is_empty task.begun) e ∙
                  ap (λ us. true && is_empty us) f
      by_progress (RunsOn w n) e q =
          let begun : IsBegun (past log d.asked) o task w n = q.0 in
          (no_break o task.number begun.place begun.rising, ap (λ pr. rests_now pr && is_empty task.begun) e)
      by_progress (AskedAt t n) e q =
          let was = q.1 in
          (no_break o task.number was.0 (q.2 was.0 was.1), ap (λ pr. rests_now pr && is_empty task.begun) e)

      envelope_of : (task.number ≡ 0) × (is_new task ≡ false) → Sends next.network (TheWorker o.owner) (TheNode x.node) (Ask (attempt o 0) 0)
      envelope_of old =
          let asked : Asked next.network (attempt o 0) 0 x.node = (routes.owners o.owner x at).first o.serial task own old.0 old.1 in
          let by = same_endpoint asked.0 o.owner (routes.envelopes _ asked.1) in
          subst (λ u. Sends next.network (TheWorker u) (TheNode x.node) (Ask (attempt o 0) 0)) by asked.1
        where
          same_endpoint : (v w : ℕ) → ◌≡◌ {A = Endpoint} (TheWorker v) (TheWorker w) → v ≡ w
          same_endpoint v w e = cc

      by_source : (object : Object) (source : ObjectSource) → KnowsSource (past log d.asked) x.node x.objects o object source → task_in source ≡ Some task →
          Sends next.network (TheWorker o.owner) (TheNode x.node) (Ask (attempt o 0) 0)
      by_source object WasPut q f = absurd (cc)
      by_source object (ByTask other) q f =
          let same : other ≡ task = cc in
          let t : KnowsTask (past log d.asked) o x.objects task = subst (KnowsTask (past log d.asked) o x.objects) same q.0 in
          envelope_of (by_progress task.progress refl t.progress)
      by_source object (Beside j) q f = absurd (cc)

      by_object : (p : Option Object) → item_at x.objects o.serial ≡ p → task_of p ≡ Some task →
          Sends next.network (TheWorker o.owner) (TheNode x.node) (Ask (attempt o 0) 0)
      by_object None e f = absurd (cc)
      by_object (Some object) e f = by_source object object.source (k.objects o.serial object e).source f

  birth_is_paid : (o : Id) (a : Attempt) (f : Name) (args : List Argument) (depth retries others n : ℕ) → Among (Born o a (Task f args depth retries others)) entries →
      node_of o.owner log ≡ Some n → Sends envelopes (TheWorker o.owner) (TheNode n) (Ask (attempt o 0) 0)
  birth_is_paid o a f args depth retries others n born place =
      let x = lives_there s log next d o.owner (calm_live log o.owner n still place) in
      let k = d.knows.workers o.owner x.0 x.1 x.2 in
      let stands : birth_at (births log) o ≡ Some (Task f args depth retries others) =
      birth_stands (setting_of s next) log legal o a (Task f args depth retries others)
      (subst (λ es. Among (Born o a (Task f args depth retries others)) es) (sym grows) (behind r.log (In event seat) entries (Born o a
      (Task f args depth retries others)) born)) in
      let node : x.0.node ≡ n = same_node x.0.node n (sym (locations s log next d o.owner x.0 x.1) ∙ place) in
      by_task x.0 x.1 k stands node (task_of (item_at x.0.objects o.serial)) refl
    where
      same_node : (m n : ℕ) → ◌≡◌ {A = Option ℕ} (Some m) (Some n) → m ≡ n
      same_node m n e = cc

      behind : (xs : List Entry) (y : Entry) (es : List Entry) (z : Entry) → Among z es → Among z (xs ++ y ∷ es)
      behind [] y es z e = (suc e.0, e.1)
      behind (x ∷ xs) y es z e = let g = behind xs y es z e in (suc g.0, g.1)

      -- the envelope is no older than the event
      new_envelope : (x : Worker) → x.node ≡ n → Sends next.network (TheWorker o.owner) (TheNode x.node) (Ask (attempt o 0) 0) →
          Sends envelopes (TheWorker o.owner) (TheNode n) (Ask (attempt o 0) 0)
      new_envelope x node sent = elim (among-append_cases r.whole.network envelopes _ (subst (λ ls. Sends ls (TheWorker o.owner) (TheNode x.node) (Ask
          (attempt o 0) 0)) sends sent)) [
            | inl old ↦ absurd (unasked o a (Task f args depth retries others) born x.node (o.owner, old))
            | inr new ↦ subst (λ m. Sends envelopes (TheWorker o.owner) (TheNode m) (Ask (attempt o 0) 0)) node new
          ]

      is_task : (value : Value) → birth_at (births log) o ≡ Some (Task f args depth retries others) → birth_at (births log) o ≡ Some (Put value) → ⊥
      is_task value e g = let h : ◌≡◌ {A = Option Birth} (Some (Task f args depth retries others)) (Some (Put value)) = sym e ∙ g in absurd (cc)

      by_task : (x : Worker) → worker_at next o.owner ≡ Some x → KnowsWorker (setting_of s next) (past log d.asked) o.owner x →
          birth_at (births log) o ≡ Some (Task f args depth retries others) → x.node ≡ n → (p : Option OwnTask) → task_of (item_at x.objects o.serial) ≡ p →
          Sends envelopes (TheWorker o.owner) (TheNode n) (Ask (attempt o 0) 0)
      by_task x at k stands node (Some task) e = new_envelope x node (asked_first o x at task e k)
      by_task x at k stands node None e = absurd (by_object (item_at x.objects o.serial) refl e)
        where
          same_first : (u v : Part) → ◌≡◌ {A = Option Part} (Some u) (Some v) → u.born.object ≡ v.born.object
          same_first u v h = cc

          no_task : (t : OwnTask) → ◌≡◌ {A = Option OwnTask} None (Some t) → ⊥
          no_task t h = cc

          -- an object beside the first of its task is first in no birth
          by_source : (object : Object) (source : ObjectSource) → KnowsSource (past log d.asked) x.node x.objects o object source → task_in source ≡ None → ⊥
          by_source object WasPut q g = is_task q.value stands q.born
          by_source object (ByTask other) q g = absurd (cc)
          by_source object (Beside j) q g =
              let sane : Sane log = legal_logs_are_sane (setting_of s next) log legal in
              let first : o ≡ object_id o.owner j = same_first (part_of (record { object = o; birth = Task f args depth retries others }) o) _
              (sym (sane.grouped.whole o o (Task f args depth retries others) stands (first_is_made (record { object = o; birth = Task f args depth retries others })))
              ∙ q.2.3) in
              let row : task_of (item_at x.objects o.serial) ≡ Some q.0 = ap (λ (i : Id). task_of (item_at x.objects i.serial)) first ∙ q.1 in
              no_task q.0 (sym e ∙ row)

          by_object : (p : Option Object) → item_at x.objects o.serial ≡ p → task_of p ≡ None → ⊥
          by_object (Some object) i g = by_source object object.source (k.objects o.serial object i).source g
          by_object None i g = missing i (sane.serials o (born_if_first (births log) o (Task f args depth retries others) stands)) k.serial
            where
              sane : Sane log
              sane = legal_logs_are_sane (setting_of s next) log legal

              missing : item_at x.objects o.serial ≡ None → o.serial < next_serial o.owner (births log) →
                  next_serial o.owner (births log) ≡ length x.objects + 1 → ⊥
              missing none less serial = here o.serial refl none
                where
                  no_zero : o.serial ≡ 0 → ⊥
                  no_zero z =
                      let first : Legal (setting_of s r.whole) r.log = keeps.step.sound.between.legal in
                      let new : next_serial o.owner (births r.log) ≤ o.serial =
                      born_behind (setting_of s next) r.log event seat entries (subst (Legal (setting_of s next)) grows legal) first.rest
                      first.begins o a (Task f args depth retries others) born in
                      let some = some_serial o.owner r.log in
                      omega (arith, z, new, some)

                  here : (i : ℕ) → o.serial ≡ i → item_at x.objects i ≡ None → ⊥
                  here zero z e = no_zero z
                  here (suc i) z e =
                      let y = item_below x.objects i (omega (arith, z, less, serial)) in
                      let h = y.1 in absurd (cc)

-- ---- the laws

pub last_log : (r : Running) (g : Handing) (step : Step) → answer_to r g ≡ Takes step → (after_event r g).log ≡ r.log ++ In g.event g.seat ∷ step.entries
last_log r g step e = ap (λ a. r.log ++ logged g.event g.seat a) e

pub last_whole : (r : Running) (g : Handing) (step : Step) → answer_to r g ≡ Takes step → (after_event r g).whole ≡ step.whole
last_whole r g step e = ap (whole_after r.whole) e

pub calm_so_far : (r : Running) (g : Handing) (step : Step) → answer_to r g ≡ Takes step → IsCalm (after_event r g).log → IsCalm r.log
calm_so_far r g step e calm =
    let t : IsTaken r.whole g.event g.handed step = is_taken r.whole g.event g.handed step e in
    let counted = happens-counted r.whole g.event g.handed in
    calm_before r.log g.event g.seat (happens r.whole g.event g.handed).out.entries (no_event (happens r.whole g.event g.handed).out.entries counted.quiet)
    (subst IsCalm (last_log r g step e ∙ ap (λ es. r.log ++ In g.event g.seat ∷ es) t.entries) calm)

pub gives_are_begun : GivesAreBegun
gives_are_begun s slots some slot apart gs right g step is taken calm = λ n w a t v spec brings unbegun born.
    let r : Running = after_events (opening_run s.nodes slots) gs in
    let k : IsTaken r.whole g.event g.handed step = is_taken r.whole g.event g.handed step taken in
    let f = give_is_paid s r (runs_keep s slots some slot apart gs right)
    (calm_so_far r g step taken calm) n w a t v brings.0 spec g.handed brings.2 unbegun born in
    let same : (happens r.whole (Deliver brings.0) g.handed).out ≡ (happens r.whole g.event g.handed).out =
    ap (λ e. (happens r.whole e g.handed).out) (sym brings.1) in (
      subst (λ es. Among (Begun a v) es) (ap (λ (o : Outbox). o.entries) same ∙ sym k.entries) f.0,
      subst (λ ls. Sends ls (TheWorker w) (TheWorker v) (Push a spec)) (ap (λ (o : Outbox). o.envelopes) same ∙ sym k.envelopes) f.1,
    )

pub elsewheres_are_asked : ElsewheresAreAsked
elsewheres_are_asked s slots some slot apart gs right g step is taken calm = λ n w a t m brings latest unbegun.
    let r : Running = after_events (opening_run s.nodes slots) gs in
    let k : IsTaken r.whole g.event g.handed step = is_taken r.whole g.event g.handed step taken in
    let f = elsewhere_is_paid s r (runs_keep s slots some slot apart gs right)
    (calm_so_far r g step taken calm) n w a t m brings.0 g.handed brings.2 latest unbegun in
    let same : (happens r.whole (Deliver brings.0) g.handed).out ≡ (happens r.whole g.event g.handed).out =
    ap (λ e. (happens r.whole e g.handed).out) (sym brings.1) in
    subst (λ ls. Sends ls (TheWorker w) (TheNode m) (Ask a (t + 1))) (ap (λ (o : Outbox). o.envelopes) same ∙ sym k.envelopes) f

pub births_are_asked : BirthsAreAsked
births_are_asked s slots some slot apart gs right g step is taken calm = λ o a f args depth retries others n born place.
    let r : Running = after_events (opening_run s.nodes slots) gs in
    let k : IsTaken r.whole g.event g.handed step = is_taken r.whole g.event g.handed step taken in
    let next : RunKeeps s (after_event r g) = next_keeps s slots some slot apart gs right g is in
    birth_is_paid s r (runs_keep s slots some slot apart gs right) (calm_so_far r g step taken calm) (after_event r g).log (after_event r g).whole
    next.step next.asks next.routes calm g.event g.seat step.entries step.envelopes (last_log r g step taken)
    (ap (λ (c : ClusterState). c.network) (last_whole r g step taken ∙ k.whole) ∙ happens_network r.whole g.event g.handed ∙
    ap (λ ls. r.whole.network ++ ls) (sym k.envelopes))
    o a f args depth retries others n born place
