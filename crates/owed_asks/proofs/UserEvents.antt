-- In every run whoever has a slot of a live node has a use for it.
use Rattle.std.proofs.Common.{◌≡◌, ◌≢◌, ℕ, ◌+◌, List, [], ◌∷◌, ◌++◌, length, map, Some, None, Option, refl, ap, sym, subst, ◌∙◌, ◌⊎◌}
use Rattle.std.proofs.Common.{append-nil, inl, inr}
use Rattle.std.specs.Prelude.{Bool, true, false, if◌then◌else◌, not, ◌&&◌, ◌==◌}
use Rattle.std.proofs.lemmas.Bool.{both_ways, eqb-true, false_from_ne_true}
use Rattle.sequence.proofs.Places.{and_right, or_cases}
use Rattle.meaning.proofs.BirthLaws.{at_test}
use Rattle.meaning.specs.Values.{Birth, Id, Outcome}
use Rattle.event_log.specs.Commits.{commit_entries}
use Rattle.event_log.specs.Entries.{Attempt, Entry, Event, Claim, Commit, Deliver, Tick, Notice, NoticeNode, Evict, Lose, Kill, KillNode, Join, main_attempt}
use Rattle.event_log.specs.Entries.{Refusal, NoWorker, NotReady, NoJob, Stale, NotDead, Limit}
use Rattle.event_log.specs.Breaks.{Among}
use Rattle.protocol.specs.Numbered.{item_at, changed_at}
use Rattle.protocol.specs.Sets.{has, repeated}
use Rattle.protocol.specs.Messages.{Envelope, envelope, Message, Endpoint, TheWorker, TheNode, Ask, Give, Elsewhere, Wait, Back, Push, Finished, FinishedAck, Failed}
use Rattle.protocol.specs.Messages.{Where, At, Gone, Fetch, CopyOf, Missing, Hold, HoldAck, Unhold}
use Rattle.protocol.specs.Jobs.{AtEnd, AtGet, JobRecord, CommitInput, Job, Nothing, OfAnother, OfJob, Outcomes, Stopped, stop_of}
use Rattle.protocol.specs.Nodes.{AskReply, Leased, Node, Queued, SentOn, NodeContext, new_node}
use Rattle.protocol.specs.Slots.{ask_key, forgets, node_reached, reply_to}
use Rattle.protocol.specs.Tables.{Fetching, HasEnded, Out, Execution, has_stopped, Waits, Worker, is_waiting_for, new_worker}
use Rattle.protocol.specs.Steps.{WorkerContext, logs_all, with_phase, with_run}
use Rattle.protocol.specs.Runs.{begins_run, gives_slot_back, is_free, leaves_if_free, push_reached}
use Rattle.protocol.specs.Commits.{keeps_contents, asks_where, bears_all, claim_by, claim_step, commit_by, commit_step, ends, needs, next_id_here, stops_by, with_outcomes}
use Rattle.protocol.specs.Notices.{notice_step, notice_node_step}
use Rattle.protocol.specs.Ticks.{tick_step}
use Rattle.protocol.specs.Releases.{release_step}
use Rattle.protocol.specs.Deliveries.{reached}
use Rattle.protocol.specs.Cluster.{ClusterState, Transition, driver, first_whole, here, moved, node_at, node_does, node_does_by, there, worker_at, worker_does, after_node}
use Rattle.protocol.specs.Cluster.{worker_does_at, worker_does_by}
use Rattle.protocol.specs.Events.{committed_by, dead, dead_node, delivered_by, delivered_to, dies_with, happens, is_live_node, is_live_worker, killed_by, objects_made}
use Rattle.protocol.specs.Events.{with_committed, with_delivered}
use Rattle.protocol.specs.Answers.{Refuses, answer, decided, given_out, takes, whole_after}
use Rattle.protocol.specs.Refusals.{commit_refusal, has_slot, is_dead_node, is_dead_worker, is_of_job, is_out_by, is_ready, is_ready_on, is_ready_run}
use Rattle.protocol.specs.Refusals.{is_within_limits}
use Rattle.protocol.specs.Refusals.{no_worker, refusal, unless}
use Rattle.protocol_owed.specs.Courses.{GoesOn, HasStopped, IsOut, Pace, Rests, has_begun}
use Rattle.protocol_owed.proofs.Asks.{Stands, reply_in}
use Rattle.protocol_owed.proofs.CourseAll.{both_passed, passed}
use Rattle.protocol_owed.proofs.CourseEvents.{one_of}
use Rattle.protocol_owed.proofs.FullNodes.{NodesAreFull}
use Rattle.protocol_owed.proofs.Envelopes.{among-more}
use Rattle.protocol_owed.proofs.Nodes.{NodesAreRight, changed_cases, push_cases, there_more}
use Rattle.protocol_owed.specs.Told.{pace_by, pace_in}
use Rattle.protocol_owed.proofs.TellingMore.{stopped_pace}
use Rattle.protocol_owed.proofs.CourseRuns.{OutOf, out_of}
use Rattle.smallest_steps.proofs.Smallest.{AnyOver, AnyPassed, AnyTold}
use Rattle.lease_discipline.specs.Asks.{Asked, IsDeadNode, IsPassed, KeepsAsks, Touched}
use Rattle.lease_discipline.specs.Discipline.{IsOfNode, KeepsLeases}
use Rattle.step_laws.proofs.Places.{counted}
use Rattle.lease_discipline.proofs.Heres.{by_number, changed_elsewhere}
use Rattle.lease_discipline.proofs.Laws.{promise}
use Rattle.lease_discipline.proofs.Moves.{IsHeardFrom, IsKept, asks_where-kept, bears_all-kept, keeps_contents-kept, leaves_if_free-kept}
use Rattle.lease_discipline.proofs.Moves.{notice_node_step-kept}
use Rattle.lease_discipline.proofs.Moves.{notice_step-kept, reached-kept, release_step-kept, tick_step-kept}
use Rattle.lease_discipline.proofs.Events.{among_at, changed_same, item_map}
use Rattle.lease_discipline.proofs.TurnEvents.{GivenBy}
use Rattle.owed_asks.proofs.SlotUsers.{IsFresh, IsHere, IsUser, Nobody, One, Used, forgets_used, reached_used, used_more, used_so}
use Rattle.owed_asks.proofs.Users.{Uses, frees_uses, look, my_answer, uses_kept, worker_uses, worker_uses_by}
use Rattle.owed_asks.proofs.Waiting.{WaitsOnly, asks_where-waits, rests_waits}

-- on every live node
abbrev pub KeepsUses : ClusterState → Type 0
KeepsUses c = (n : ℕ) (node : Node) → node_at c n ≡ Some node → node.is_live ≡ true → Used Nobody Nobody (worker_at c) c.network n node.scheduler

-- ---- an idle worker never began what is asked for

unanswered : (o : Option AskReply) (a : Attempt) (t v : ℕ) → (o ≡ None) ⊎ (o ≡ Some Queued) → Stands o (ask_key a t) (Give a t v) → ⊥
unfolding Stands
unanswered None a t v e p = p
unanswered (Some (Leased w)) a t v (inl e) p = absurd (cc)
unanswered (Some (Leased w)) a t v (inr e) p = absurd (cc)
unanswered (Some (SentOn w)) a t v (inl e) p = absurd (cc)
unanswered (Some (SentOn w)) a t v (inr e) p = absurd (cc)
unanswered (Some Queued) a t v e (inl p) = absurd (cc)
unanswered (Some Queued) a t v e (inr (u, p, q)) = absurd (cc)

not_sent_on : (o : Option AskReply) (a : Attempt) (t m : ℕ) → (o ≡ None) ⊎ (o ≡ Some Queued) → Stands o (ask_key a t) (Elsewhere a t m) → ⊥
unfolding Stands
not_sent_on None a t m e p = p
not_sent_on (Some (Leased w)) a t m (inl e) p = absurd (cc)
not_sent_on (Some (Leased w)) a t m (inr e) p = absurd (cc)
not_sent_on (Some (SentOn w)) a t m (inl e) p = absurd (cc)
not_sent_on (Some (SentOn w)) a t m (inr e) p = absurd (cc)
not_sent_on (Some Queued) a t m e (inl p) = absurd (cc)
not_sent_on (Some Queued) a t m e (inr (u, p, q)) = absurd (cc)

-- what is known between two events
pub record Knowing (c : ClusterState) : Type 0 where
  pub leases : KeepsLeases c
  pub asks : KeepsAsks c
  pub right : NodesAreRight c
  pub full : NodesAreFull c
  pub housed : (w : ℕ) (x : Worker) → worker_at c w ≡ Some x → x.is_live ≡ true → (node : Node) × (node_at c x.node ≡ Some node) × (node.is_live ≡ true)

module _ (c : ClusterState) (k : Knowing c) (n : ℕ) (node : Node) (at : node_at c n ≡ Some node) (live : node.is_live ≡ true) where
  alive : IsDeadNode c n → ⊥
  alive (other, there, off) =
      let f : ◌≡◌ {A = Option Node} (Some node) (Some other) = sym at ∙ there in
      let is : node ≡ other = cc in
      both_ways other.is_live off (ap (λ (x : Node). x.is_live) (sym is) ∙ live)

  never_main : Touched c.network main_attempt → ⊥
  never_main touched = let x = k.asks.owned main_attempt touched in (k.asks.owners 1 x.0 x.1).none 0 0 refl touched

  pub unbegun_key : (w : ℕ) (x : Worker) (a : Attempt) (t : ℕ) → has node.scheduler.idle w ≡ true → worker_at c w ≡ Some x →
      (reply_to node.scheduler (ask_key a t) ≡ None) ⊎ (reply_to node.scheduler (ask_key a t) ≡ Some Queued) → Asked c.network a t n →
      has_begun a x.began ≡ false
  unbegun_key w x a t idle there reply asked = false_from_ne_true (has_begun a x.began) (λ begun. elim ((k.leases.workers.each w x there).began a begun) [
    | inl (main, _) ↦ never_main (subst (λ b. Touched c.network b) main (inl (t, n, asked)))
    | inr pushed ↦
        let closed = k.asks.closed a w pushed in
        let i = (k.leases.nodes n node at).idle w idle in
        let given : IsOfNode (worker_at c) closed.node w = k.leases.workers.envelopes _ closed.given in
        let home : closed.node ≡ n = same_home i.worker given.worker (sym i.there ∙ given.there) i.home given.home in
        let told = (k.right.each n node at).replies.told in
        elim (closed.last t n asked) [
          | inl (same, _) ↦
              let sent = subst (λ j. Among (envelope (TheNode n) (TheWorker a.object.owner) (Give a j w)) c.network) (sym same)
              (subst (λ j. Among (envelope (TheNode j) (TheWorker a.object.owner) (Give a closed.hops w)) c.network) home closed.given) in
              unanswered (reply_in node.scheduler.asks (ask_key a t)) a t w reply (told a t (Give a t w) (inl (w, refl)) sent)
          | inr (_, passed) ↦ unpassed passed reply
        ]
  ])
    where
      same_home : (y z : Worker) → ◌≡◌ {A = Option Worker} (Some y) (Some z) → {m : ℕ} → y.node ≡ n → z.node ≡ m → m ≡ n
      same_home y z e p q = let is : y ≡ z = cc in sym q ∙ ap (λ (u : Worker). u.node) (sym is) ∙ p

      unpassed : IsPassed (IsDeadNode c) c.network a t n →
          (reply_to node.scheduler (ask_key a t) ≡ None) ⊎ (reply_to node.scheduler (ask_key a t) ≡ Some Queued) → ⊥
      unpassed (inr off) r = alive off
      unpassed (inl (m, on)) r =
          not_sent_on (reply_in node.scheduler.asks (ask_key a t)) a t m r ((k.right.each n node at).replies.told a t (Elsewhere a t m) (inr (inl
          (m, refl))) on)

  pub fresh_node : IsFresh (worker_at c) node.scheduler
  fresh_node w x key idle there queued =
      let waits : reply_to node.scheduler key ≡ Some Queued = (k.right.each n node at).queue.waiting key queued in
      unbegun_key w x key.attempt key.hops idle there (inr waits) (k.asks.nodes n node key Queued at waits)

-- ---- the worker's own steps

module _ (c : ClusterState) (me n : ℕ) (old : Worker) (at : item_at c.workers me ≡ Some old) where
  abbrev U : Option Pace → WorkerContext → Type 0
  U p = Uses c me n old at p

  abbrev kept : (p : Option Pace) → IsKept AnyTold AnyOver GivenBy AnyPassed (U p)
  kept p = uses_kept c me n old at AnyTold AnyOver GivenBy p

  -- an attempt that goes on doesn't ask for a slot
  abbrev Unasking : WorkerContext → Type 0
  Unasking h = (pace_by h.worker.run ≡ GoesOn) × (has h.there.node.scheduler.answered me ≡ false)

  goes_rests : GoesOn ≡ Rests → ⊥
  goes_rests e = absurd (cc)

  goes_stopped : GoesOn ≡ HasStopped → ⊥
  goes_stopped e = absurd (cc)

  waits_no : (h : WorkerContext) (run : Execution) (y : Id) (f : Option Fetching) → h.worker.run ≡ Some run → run.phase ≡ Waits y f → Unasking h → ⊥
  waits_no h run y f e q u = goes_rests (sym u.0 ∙ ap pace_by e ∙ ap pace_in q)

  stopped_no : (h : WorkerContext) (run : Execution) → h.worker.run ≡ Some run → has_stopped run.phase ≡ true → Unasking h → ⊥
  stopped_no h run e s u =
      goes_stopped (sym u.0 ∙ ap pace_by e ∙ stopped_pace run.phase s)

  unasking_kept : IsKept AnyTold AnyOver GivenBy AnyPassed Unasking
  unasking_kept = record {
    writes = λ h es u. u;
    says_plain = λ h w m _ u. u;
    says_plain_to_node = λ h i m _ u. u;
    objects = λ h x t u. (ap pace_by t.tame.run ∙ u.0, u.1);
    store = λ h s u. u;
    begins = λ h o task w m _ _ _ _ _ _ u. u;
    bears_new = λ h a spec others ids u. u;
    comes_to_rest = λ h o task _ _ u. u;
    pushes_again = λ h i task w m _ _ u. u;
    asks_anew = λ h o before task _ _ u. u;
    asks_on = λ h o task t m i _ _ _ u. u;
    asks_again = λ h i task t m _ _ u. u;
    run = λ h run next e i u.
        (i.pace ∙ ap pace_by (sym e) ∙ u.0, u.1);
    leaves = λ h run next e s _ _ _ u. absurd (stopped_no h run e s u);
    gets = λ h run content y f e q u. absurd (waits_no h run y f e q u);
    faults = λ h run fault y f e q u. absurd (waits_no h run y f e q u);
    frees = λ h run y f e q u. absurd (waits_no h run y f e q u);
    tells_end = λ h run m rs _ _ u. u;
    tells_fault = λ h run f _ _ u. u;
    back = λ h run _ _ u. u;
    hears = λ h w a _ u. u;
    back_of = λ h m a _ _ u. u;
  }

  -- a worker that isn't exempt
  tight : (p : Pace) (h : WorkerContext) → (pace_by h.worker.run ≡ p → ⊥) → U (Some p) h → U None h
  tight p h other u = record {
    who = u.who;
    home = u.home;
    lives = u.lives;
    number = u.number;
    counted = u.counted;
    used = used_so _ Nobody _ Nobody (look c me n old at h.worker h.there.opened) (c.network ++ h.there.out.envelopes) n h.there.node.scheduler
        (λ w f. absurd (other (same_pace p (pace_by h.worker.run) f.1))) (λ w f. f) u.used;
    fresh = u.fresh;
  }
    where
      same_pace : (i j : Pace) → ◌≡◌ {A = Option Pace} (Some i) (Some j) → j ≡ i
      same_pace i j e = cc

  -- the attempt stops: it may keep its slot until the end of the step
  stops_slot : (p : Pace) (h : WorkerContext) (run : Execution) → pace_in run.phase ≡ p → Unasking h → U None h → U (Some p) (with_run h run)
  stops_slot p h run e unasking u =
      worker_uses c me n old at None (Some p) h (record h.worker { run = Some run }) refl refl refl (λ _. inr (ap (λ i. Some i) (sym e)))
      (λ asks. absurd (both_ways (has h.there.node.scheduler.answered me) unasking.1 asks)) u

  needs_uses : (h : WorkerContext) (run : Execution) (y : Id) → Unasking h → U None h → U None (needs h run y)
  needs_uses h run y unasking u =
      let waits : Execution = record run { phase = Waits y None } in
      let g : WorkerContext = asks_where (with_phase h run (Waits y None)) y in
      let asked : U (Some Rests) g = asks_where-kept AnyTold AnyOver GivenBy AnyPassed (U (Some Rests)) (kept (Some Rests)) (with_phase h run (Waits y None)) y
      (stops_slot Rests h waits refl unasking u) in
      let only : WaitsOnly y g = asks_where-waits y (with_phase h run (Waits y None)) (λ z e. same_id_of y z e) in
      at_test (λ b. is_waiting_for g.worker y ≡ b → U None (if b then gives_slot_back g else g)) (is_waiting_for g.worker y)
      (λ _ _. frees_uses c me n old at (Some Rests) None g asked)
      (λ _ no. tight Rests g (λ e. both_ways (is_waiting_for g.worker y) no (rests_waits y g only e)) asked) refl
    where
      same_id_of : (y z : Id) → ◌≡◌ {A = Option Id} (Some y) (Some z) → z ≡ y
      same_id_of y z e = cc

  ends_uses : (h : WorkerContext) (run : Execution) (cs : List Outcome) → Unasking h → U None h → U None (ends h run cs)
  ends_uses h run cs unasking u =
      let ended : Execution = record run { phase = HasEnded cs } in
      let g : WorkerContext = with_phase h run (HasEnded cs) in
      let held : WorkerContext = keeps_contents g run.attempt.object run.attempt.number cs in
      let v : U (Some HasStopped) g = stops_slot HasStopped h ended refl unasking u in
      let w : U (Some HasStopped) held = keeps_contents-kept AnyTold AnyOver GivenBy AnyPassed (U (Some HasStopped)) (kept (Some HasStopped)) g
      run.attempt.object run.attempt.number cs v in
      frees_uses c me n old at (Some HasStopped) None (leaves_if_free held)
      (leaves_if_free-kept AnyTold AnyOver GivenBy AnyPassed (U (Some HasStopped)) (kept (Some HasStopped)) held w)

  stops_uses : (h : WorkerContext) (stop : Stopped) (r : Option Execution) → Unasking h → U None h → U None (stops_by h stop r)
  stops_uses h stop None unasking u = u
  stops_uses h (AtGet y) (Some run) unasking u = needs_uses h run y unasking u
  stops_uses h (AtEnd cs) (Some run) unasking u = ends_uses h run cs unasking u

  pub commit_uses : (h : WorkerContext) (o : Outcomes) (run : Execution) (j : ℕ) → h.worker.run ≡ Some run → run.phase ≡ Out j → U None h → U None (commit_step h o)
  commit_uses h o run j e out u = subst (λ r. U None (commit_by h o r)) (sym e) by_run
    where
      silent : has h.there.node.scheduler.answered me ≡ false
      silent = false_from_ne_true (has h.there.node.scheduler.answered me) (λ asks. out_goes (sym (ap pace_by e ∙ ap pace_in out) ∙
          my_answer c me n old at None h u asks))
        where
          out_goes : IsOut j ≡ GoesOn → ⊥
          out_goes f = absurd (cc)

      by_run : U None (commit_by h o (Some run))
      by_run =
          let es : List Entry = commit_entries run.attempt (next_id_here h) o.births o.prints (stop_of o.stop) in
          let next : Execution = with_outcomes run o in
          let g : WorkerContext = logs_all (with_run h next) es in
          let v : U None (with_run h next) = worker_uses c me n old at None None h (record h.worker { run = Some next }) refl refl refl (λ _. inl
          (inl refl)) (λ _. refl) u in
          let borne : WorkerContext = bears_all g run.attempt o.births in
          let b : U None borne = bears_all-kept AnyTold AnyOver GivenBy AnyPassed (U None) (kept None) g run.attempt o.births
          (record { who = v.who; home = v.home; lives = v.lives; number = v.number; counted = v.counted; used = v.used; fresh = v.fresh }) in
          let q : Unasking borne = bears_all-kept AnyTold AnyOver GivenBy AnyPassed Unasking unasking_kept g run.attempt o.births (refl, silent) in
          stops_uses borne o.stop borne.worker.run q b

  -- an attempt is given out, or begins: it has a slot, and asks for none
  pub claim_uses : (h : WorkerContext) (j : ℕ) → has h.there.node.scheduler.answered me ≡ false → U None h → U None (claim_step h j)
  claim_uses h j silent u = by_run h.worker.run
    where
      by_run : (r : Option Execution) → U None (claim_by h j r)
      by_run None = u
      by_run (Some run) = worker_uses c me n old at None None h (record h.worker { run = Some (record run { phase = Out j }) }) refl refl refl
          (λ _. inl (inr (inl (j, refl)))) (λ asks. absurd (both_ways (has h.there.node.scheduler.answered me) silent asks)) u

  pub push_uses : (h : WorkerContext) (a : Attempt) (spec : Birth) → has h.there.node.scheduler.idle me ≡ false → U None h → U None (begins_run h a spec)
  push_uses h a spec busy u = worker_uses_by c me n old at None None h (begins_run h a spec).worker refl refl
      (λ k idle. absurd (both_ways (has h.there.node.scheduler.idle me) busy idle)) (λ _. inl (inl refl)) (λ _. refl) u

-- ---- the end of an event of a node

-- workers of other nodes are the same
module _ (c d : ClusterState) (n : ℕ) (t : NodeContext) (same_nodes : d.nodes ≡ c.nodes) (same_network : d.network ≡ c.network)
    (others : (m : ℕ) (w : ℕ) (x : Worker) → m ≢ n → worker_at c w ≡ Some x → x.node ≡ m → worker_at d w ≡ Some x) (k : KeepsUses c)
    (now : t.node.is_live ≡ true → Used Nobody Nobody (λ w. item_at (d.workers ++ repeated t.opened (new_worker n)) w)
    (d.network ++ t.out.envelopes) n t.node.scheduler) where
  uses_end : KeepsUses (after_node d n t).whole
  uses_end m node e live = elim (changed_cases d.nodes n m (λ _. t.node) node e) [
    | inl (same, _, _, is) ↦
        subst (λ i. Used Nobody Nobody (worker_at (after_node d n t).whole) (d.network ++ t.out.envelopes) i node.scheduler) (sym same)
        (subst (λ (x : Node). Used Nobody Nobody (worker_at (after_node d n t).whole) (d.network ++ t.out.envelopes) n x.scheduler) (sym is)
        (now (ap (λ (x : Node). x.is_live) (sym is) ∙ live)))
    | inr (apart, before) ↦
        used_more Nobody Nobody (worker_at c) (worker_at (after_node d n t).whole) c.network (d.network ++ t.out.envelopes) m node.scheduler
        (λ l i. among-more d.network t.out.envelopes l (subst (λ ls. Among l ls) (sym same_network) i))
        (λ w x there home. there_more d.workers (repeated t.opened (new_worker n)) w x (others m w x apart there home))
        (k m node (subst (λ ns. item_at ns m ≡ Some node) same_nodes before) live)
  ]

-- ---- an event of a worker

abbrev Steps : ClusterState → ℕ → (WorkerContext → WorkerContext) → Type 0
Steps c w f = (x : Worker) (at : worker_at c w ≡ Some x) (node : Node) → node_at c x.node ≡ Some node → x.is_live ≡ true → node.is_live ≡ true →
    Uses c w x.node x at None (here c w x node) → Uses c w x.node x at None (f (here c w x node))

-- whatever jobs were given and messages delivered
worker_uses_event : (c : ClusterState) (jobs : List JobRecord) (made : ℕ) (delivered : List Bool) (w : ℕ) (f : WorkerContext → WorkerContext) →
    is_live_worker (worker_at c w) ≡ true → Knowing c →
    Steps (record c { jobs = jobs; made = made; delivered = delivered }) w f → KeepsUses c →
    KeepsUses (worker_does (record c { jobs = jobs; made = made; delivered = delivered }) w f).whole
worker_uses_event c jobs made delivered w f live knowing steps k = by_worker (worker_at c w) refl live
  where
    d : ClusterState
    d = record c { jobs = jobs; made = made; delivered = delivered }

    with_node : (x : Worker) (at : worker_at c w ≡ Some x) (node : Node) → node_at c x.node ≡ Some node → x.is_live ≡ true → node.is_live ≡ true →
        KeepsUses (worker_does_at d w x f (Some node)).whole
    with_node x at node home lives node_lives =
        let start : WorkerContext = here d w x node in
        let all : changed_at c.workers w (λ _. x) ++ [] ≡ c.workers = append-nil (changed_at c.workers w (λ _. x)) ∙ changed_same c.workers w x at in
        let first : Used Nobody Nobody (worker_at c) c.network x.node node.scheduler = k x.node node home node_lives in
        let begins : Uses d w x.node x at None start = record {
          who = refl;
          home = refl;
          lives = lives;
          number = refl;
          counted = refl;
          used = used_so Nobody Nobody _ Nobody (look d w x.node x at x 0) (c.network ++ []) x.node node.scheduler (λ v i. absurd i) (λ v i. i)
              (subst (λ xs. Used Nobody Nobody (λ v. item_at xs v) (c.network ++ []) x.node node.scheduler) (sym all)
              (subst (λ ls. Used Nobody Nobody (worker_at c) ls x.node node.scheduler) (sym (append-nil c.network)) first));
          fresh = subst (λ xs. IsFresh (λ v. item_at xs v) node.scheduler) (sym all) (fresh_node c knowing x.node node home node_lives);
        } in
        let h : WorkerContext = release_step (f start) in
        let u : Uses d w x.node x at None h =
        release_step-kept AnyTold AnyOver GivenBy AnyPassed (Uses d w x.node x at None) (uses_kept d w x.node x at AnyTold AnyOver GivenBy None) (f start)
        (steps x at node home lives node_lives begins) in
        uses_end c (record d { workers = changed_at c.workers w (λ _. h.worker) }) x.node h.there refl refl
        (λ m v y apart there of_m. changed_elsewhere c.workers w v (λ _. h.worker) y (λ same. apart (sym of_m ∙ same_node v y same there at)) there) k
        (λ _. used_so _ Nobody Nobody Nobody (look d w x.node x at h.worker h.there.opened) (c.network ++ h.there.out.envelopes) x.node h.there.node.scheduler
        (λ v i. no_pace h.worker i.1) (λ v i. i) u.used)
      where
        no_pace : (y : Worker) → ◌≡◌ {A = Option Pace} None (Some (pace_by y.run)) → ⊥
        no_pace y e = cc

        same_node : (v : ℕ) (y : Worker) → v ≡ w → worker_at c v ≡ Some y → worker_at c w ≡ Some x → y.node ≡ x.node
        same_node v y same there mine =
            let g : ◌≡◌ {A = Option Worker} (Some y) (Some x) = sym there ∙ ap (worker_at c) same ∙ mine in
            let is : y ≡ x = cc in ap (λ (z : Worker). z.node) is

    by_worker : (o : Option Worker) → worker_at c w ≡ o → is_live_worker o ≡ true → KeepsUses (worker_does_by d w f o).whole
    by_worker None at e = k
    by_worker (Some x) at e =
        let h = knowing.housed w x at e in
        subst (λ o. KeepsUses (worker_does_at d w x f o).whole) (sym h.1) (with_node x at h.0 h.1 e h.2)

-- ---- claims and commits

claim_event : (c : ClusterState) (w : ℕ) → refusal c (Claim w) Nothing ≡ None → Knowing c → KeepsUses c → KeepsUses (happens c (Claim w) Nothing).whole
claim_event c w e knowing k =
    let jobs : List JobRecord = c.jobs ++ record { worker = w; is_committed = false } ∷ [] in
    let d : ClusterState = record c { jobs = jobs } in
    let two = both_passed (no_worker c w) (unless (is_ready c w) NotReady) e in
    let ready : is_ready c w ≡ true = passed (is_ready c w) NotReady two.1 in
    worker_uses_event c jobs c.made c.delivered w (λ h. claim_step h (length c.jobs + 1)) (passed (is_live_worker (worker_at c w)) NoWorker two.0) knowing
    (λ x at node home lives node_lives u.
    let f : is_ready_on c w (Some x) ≡ true = ap (is_ready_on c w) (sym at) ∙ ready in
    let slot : has_slot w (Some node) ≡ true = ap (has_slot w) (sym home) ∙ and_right (x.is_live && is_ready_run x.run) (has_slot w (node_at c x.node)) f in
    claim_uses d w x.node x at (here d w x node) (length c.jobs + 1)
    (false_from_ne_true (has node.scheduler.answered w) (λ asks. both_ways (has node.scheduler.slot_holders w) ((knowing.full.each x.node node home).parts.apart w asks) slot)) u) k

commit_event : (c : ClusterState) (j : ℕ) (handed : CommitInput) (g : Option JobRecord) → commit_refusal c j handed g ≡ None → Knowing c → KeepsUses c →
    KeepsUses (committed_by c j handed g).whole
commit_event c j Nothing g e knowing k = k
commit_event c j OfAnother g e knowing k = k
commit_event c j (OfJob o) None e knowing k = k
commit_event c j (OfJob o) (Some g) e knowing k =
    let open_job : Bool = not g.is_committed && is_of_job (OfJob o) in
    let both = both_passed (unless (open_job && is_out_by (worker_at c g.worker) j) NoJob) (unless (is_live_worker (worker_at c g.worker)) Stale) e in
    let out : is_out_by (worker_at c g.worker) j ≡ true =
    and_right open_job (is_out_by (worker_at c g.worker) j) (passed (open_job && is_out_by (worker_at c g.worker) j) NoJob both.0) in
    let live : is_live_worker (worker_at c g.worker) ≡ true = passed (is_live_worker (worker_at c g.worker)) Stale both.1 in
    let d : ClusterState = with_committed c j (objects_made o.births) in
    worker_uses_event c d.jobs d.made c.delivered g.worker (λ h. commit_step h o) live knowing
    (λ x at node home lives node_lives u.
    let run : OutOf x.run j = out_of x.run j (ap (λ y. is_out_by y j) (sym at) ∙ out) in
    commit_uses d g.worker x.node x at (here d g.worker x node) o run.run j run.at run.out u) k

-- ---- deliveries

module _ (c d : ClusterState) (i w : ℕ) (from : Endpoint) (x : Worker) (at : worker_at d w ≡ Some x) (there_too : worker_at c w ≡ Some x) (node : Node)
    (home : node_at c x.node ≡ Some node) (live : x.is_live ≡ true) (knowing : Knowing c) where
  abbrev start : WorkerContext
  start = here d w x node

  abbrev Q : WorkerContext → Type 0
  Q = Uses d w x.node x at None

  abbrev q_kept : IsKept AnyTold AnyOver GivenBy AnyPassed Q
  q_kept = uses_kept d w x.node x at AnyTold AnyOver GivenBy None

  negated : (b : Bool) → not b ≡ true → b ≡ false
  negated true e = absurd (cc)
  negated false e = refl

  push_heard : (a : Attempt) (spec : Birth) → item_at c.network i ≡ Some (envelope from (TheWorker w) (Push a spec)) → start.there.node ≡ node → Q start →
      Q (push_reached start a spec)
  push_heard a spec sent same u =
      at_test (λ b. (is_free x.run && not (has_begun a x.began)) ≡ b → Q (if b then begins_run start a spec else start))
      (is_free x.run && not (has_begun a x.began))
      (λ _ e.
      let unbegun : has_begun a x.began ≡ false = negated (has_begun a x.began) (and_right (is_free x.run) (not (has_begun a x.began)) e) in
      let slot = (promise c knowing.leases i w from a spec x node sent there_too home live unbegun).slot in
      push_uses d w x.node x at start a spec
      (false_from_ne_true (has node.scheduler.idle w) (λ idle. both_ways (has node.scheduler.slot_holders w) ((knowing.leases.nodes x.node node home).idle w idle).slotless slot)) u)
      (λ _ _. u) refl

  heard_worker : (u : ℕ) → from ≡ TheWorker u → (m : Message) → item_at c.network i ≡ Some (envelope from (TheWorker w) m) → Q start →
      IsHeardFrom AnyTold AnyOver GivenBy AnyPassed Q q_kept start (TheWorker u) m
  heard_worker u e (Push a spec) sent t = push_heard a spec sent refl t
  heard_worker u e (Finished a n rs) sent t = tt
  heard_worker u e (Failed a f) sent t = tt
  heard_worker u e (FinishedAck a) sent t = tt
  heard_worker u e (Ask a j) sent t = tt
  heard_worker u e (Give a j v) sent t = tt
  heard_worker u e (Elsewhere a j n) sent t = tt
  heard_worker u e (Wait a j) sent t = tt
  heard_worker u e (Back a) sent t = tt
  heard_worker u e (Where o) sent t = tt
  heard_worker u e (At o number ns content) sent t = tt
  heard_worker u e (Gone o f) sent t = tt
  heard_worker u e (Fetch o number) sent t = tt
  heard_worker u e (CopyOf o number b) sent t = tt
  heard_worker u e (Missing o number n) sent t = tt
  heard_worker u e (Hold h o) sent t = tt
  heard_worker u e (HoldAck h o) sent t = tt
  heard_worker u e (Unhold h o why) sent t = tt

  heard_node : (n : ℕ) (m : Message) → IsHeardFrom AnyTold AnyOver GivenBy AnyPassed Q q_kept start (TheNode n) m
  heard_node n (Give a j v) = λ _. tt
  heard_node n (Push a spec) = tt
  heard_node n (Finished a m rs) = tt
  heard_node n (Failed a f) = tt
  heard_node n (FinishedAck a) = tt
  heard_node n (Ask a j) = tt
  heard_node n (Elsewhere a j m) = λ own i _ _ _ _. tt
  heard_node n (Wait a j) = tt
  heard_node n (Back a) = tt
  heard_node n (Where o) = tt
  heard_node n (At o number ns content) = tt
  heard_node n (Gone o f) = tt
  heard_node n (Fetch o number) = tt
  heard_node n (CopyOf o number b) = tt
  heard_node n (Missing o number m) = tt
  heard_node n (Hold h o) = tt
  heard_node n (HoldAck h o) = tt
  heard_node n (Unhold h o why) = tt

  reached_uses : (m : Message) → item_at c.network i ≡ Some (envelope from (TheWorker w) m) → Q start → Q (reached start from m)
  reached_uses m sent t = by_endpoint from refl
    where
      by_endpoint : (s : Endpoint) → from ≡ s → Q (reached start s m)
      by_endpoint (TheWorker u) e = reached-kept AnyTold AnyOver GivenBy AnyPassed Q q_kept start (TheWorker u) m (heard_worker u e m sent t) t
      by_endpoint (TheNode n) e = reached-kept AnyTold AnyOver GivenBy AnyPassed Q q_kept start (TheNode n) m (heard_node n m) t

-- a message reaches a live node
node_event : (c : ClusterState) (delivered : List Bool) (n : ℕ) (from : Endpoint) (m : Message) → Among (envelope from (TheNode n) m) c.network →
    is_live_node (node_at c n) ≡ true →
    Knowing c → KeepsUses c → KeepsUses (node_does (record c { delivered = delivered }) n (λ h. node_reached h from m)).whole
node_event c delivered n from m came live knowing k = by_node (node_at c n) refl live
  where
    d : ClusterState
    d = record c { delivered = delivered }

    by_node : (o : Option Node) → node_at c n ≡ o → is_live_node o ≡ true → KeepsUses (node_does_by d n (λ h. node_reached h from m) o).whole
    by_node None at e = k
    by_node (Some node) at e =
        let t : NodeContext = there d n node in
        let all : c.workers ++ [] ≡ c.workers = append-nil c.workers in
        let first : Used Nobody Nobody (λ v. item_at (c.workers ++ []) v) (c.network ++ []) n node.scheduler =
        subst (λ xs. Used Nobody Nobody (λ v. item_at xs v) (c.network ++ []) n node.scheduler) (sym all)
        (subst (λ ls. Used Nobody Nobody (worker_at c) ls n node.scheduler) (sym (append-nil c.network)) (k n node at e)) in
        uses_end c d n (node_reached t from m) refl refl (λ j w x _ at_w _. at_w) k
        (λ _. reached_used c.workers c.network n t from m (record { number = refl; counted = refl })
        (λ a i u from_u is none v x idle at_v. unbegun_key c knowing n node at e v x a i idle (subst (λ xs. item_at xs v ≡ Some x) all at_v)
        (inl none) (u, asked_by a i u from_u is))
        first)
      where
        asked_by : (a : Attempt) (i u : ℕ) → from ≡ TheWorker u → m ≡ Ask a i → Among (envelope (TheWorker u) (TheNode n) (Ask a i)) c.network
        asked_by a i u from_u is =
            subst (λ z. Among (envelope (TheWorker u) (TheNode n) z) c.network) is (subst (λ z. Among (envelope z (TheNode n) m) c.network) from_u came)

envelope_event : (c : ClusterState) (delivered : List Bool) (i : ℕ) (s to : Endpoint) (m : Message) → item_at c.network i ≡ Some (envelope s to m) → Knowing c →
    KeepsUses c →
    KeepsUses (delivered_to (record c { delivered = delivered }) (envelope s to m) to).whole
envelope_event c delivered i s (TheWorker w) m sent knowing k =
    let d : ClusterState = record c { delivered = delivered } in
    at_test (λ b. is_live_worker (worker_at c w) ≡ b → KeepsUses (if b then worker_does d w (λ h. reached h s m) else moved d).whole)
    (is_live_worker (worker_at c w))
    (λ _ e. worker_uses_event c c.jobs c.made delivered w (λ h. reached h s m) e knowing
    (λ x at node home lives node_lives u. reached_uses c d i w s x at at node home lives knowing m sent u) k)
    (λ _ _. k) refl
envelope_event c delivered i s (TheNode n) m sent knowing k =
    let d : ClusterState = record c { delivered = delivered } in
    at_test (λ b. is_live_node (node_at c n) ≡ b →
    KeepsUses (if b then node_does d n (λ h. node_reached h s m) else moved d).whole) (is_live_node (node_at c n))
    (λ _ e. node_event c delivered n s m (among_at c.network i _ sent) e knowing k) (λ _ _. k) refl

deliver_event : (c : ClusterState) (i : ℕ) (l : Option Envelope) → item_at c.network i ≡ l → Knowing c → KeepsUses c → KeepsUses (delivered_by c i l).whole
deliver_event c i None at knowing k = k
deliver_event c i (Some x) at knowing k = envelope_event c (with_delivered c i).delivered i x.sender x.receiver x.message at knowing k

-- ---- deaths

kill_event : (c : ClusterState) (w : ℕ) → is_live_worker (worker_at c w) ≡ true → Knowing c → KeepsUses c → KeepsUses (killed_by c w (worker_at c w)).whole
kill_event c w live knowing k = by_worker (worker_at c w) refl live
  where
    d : ClusterState
    d = record c { workers = changed_at c.workers w dead }

    with_node : (x : Worker) → worker_at c w ≡ Some x → (node : Node) → node_at c x.node ≡ Some node → node.is_live ≡ true →
        KeepsUses (node_does_by d x.node (λ h. forgets h w) (Some node)).whole
    with_node x at node home lives =
        let t : NodeContext = there d x.node node in
        let all : d.workers ++ [] ≡ d.workers = append-nil d.workers in
        let u : Used Nobody Nobody (worker_at c) c.network x.node node.scheduler = k x.node node home lives in
        let first : Used (One w) (One w) (λ v. item_at (d.workers ++ []) v) (c.network ++ []) x.node node.scheduler =
        subst (λ xs. Used (One w) (One w) (λ v. item_at xs v) (c.network ++ []) x.node node.scheduler) (sym all)
        (subst (λ ls. Used (One w) (One w) (worker_at d) ls x.node node.scheduler) (sym (append-nil c.network)) (but_one u)) in
        uses_end c d x.node (forgets t w) refl refl
        (λ m v y apart at_v of_m. changed_elsewhere c.workers w v dead y (λ same. apart (sym of_m ∙ same_node v y same at_v)) at_v) k
        (λ _. forgets_used d.workers c.network x.node t w (record { number = refl; counted = refl })
        (subst (λ xs. IsFresh (λ v. item_at xs v) node.scheduler) (sym all) (still_fresh (fresh_node c knowing x.node node home lives))) first)
      where
        same_node : (v : ℕ) (y : Worker) → v ≡ w → worker_at c v ≡ Some y → y.node ≡ x.node
        same_node v y same at_v =
            let g : ◌≡◌ {A = Option Worker} (Some y) (Some x) = sym at_v ∙ ap (worker_at c) same ∙ at in
            let is : y ≡ x = cc in ap (λ (z : Worker). z.node) is

        still_there : (v : ℕ) → IsHere (worker_at c) x.node v → IsHere (worker_at d) x.node v ⊎ One w v
        still_there v h = elim (by_number v w) [
          | inl same ↦ inr same
          | inr apart ↦ inl (record { worker = h.worker; there = changed_elsewhere c.workers w v dead h.worker apart h.there; home = h.home; lives = h.lives })
        ]

        but_one : Used Nobody Nobody (worker_at c) c.network x.node node.scheduler → Used (One w) (One w) (worker_at d) c.network x.node node.scheduler
        but_one u = record {
          slot_holders = λ v e. elim (by_number v w) [
            | inl same ↦ inr same
            | inr apart ↦ elim (u.slot_holders v e) [
              | inl f ↦ inl (record {
                here = record { worker = f.here.worker; there = changed_elsewhere c.workers w v dead f.here.worker apart f.here.there; home = f.here.home; lives = f.here.lives };
                why = f.why;
              })
              | inr f ↦ absurd f
            ]
          ];
          answered = λ v e. elim (by_number v w) [
            | inl same ↦ inr same
            | inr apart ↦ elim (u.answered v e) [
              | inl f ↦ inl (record {
                here = record { worker = f.here.worker; there = changed_elsewhere c.workers w v dead f.here.worker apart f.here.there; home = f.here.home; lives = f.here.lives };
                goes = f.goes;
              })
              | inr f ↦ absurd f
            ]
          ];
          idle = λ v e. elim (u.idle v e) [ inl f ↦ still_there v f | inr f ↦ absurd f ];
          leased = λ v a e. elim (u.leased v a e) [ inl f ↦ still_there v f | inr f ↦ absurd f ];
        }

        still_fresh : IsFresh (worker_at c) node.scheduler → IsFresh (worker_at d) node.scheduler
        still_fresh fresh v y key idle at_v queued = elim (changed_cases c.workers w v dead y at_v) [
          | inl (_, z, before, is) ↦ ap (λ (i : Worker). has_begun key.attempt i.began) is ∙ fresh v z key idle before queued
          | inr (_, before) ↦ fresh v y key idle before queued
        ]

    by_worker : (o : Option Worker) → worker_at c w ≡ o → is_live_worker o ≡ true → KeepsUses (killed_by c w o).whole
    by_worker None at e = k
    by_worker (Some x) at e =
        let h = knowing.housed w x at e in
        subst (λ o. KeepsUses (node_does_by d x.node (λ t. forgets t w) o).whole) (sym h.1) (with_node x at h.0 h.1 h.2)

kill_node_event : (c : ClusterState) (n : ℕ) → KeepsUses c → KeepsUses (record c { nodes = changed_at c.nodes n dead_node; workers = map (dies_with n) c.workers })
kill_node_event c n k m node e live = elim (changed_cases c.nodes n m dead_node node e) [
  | inl (_, old, _, is) ↦ absurd (both_ways node.is_live (ap (λ (x : Node). x.is_live) is) live)
  | inr (apart, before) ↦ used_more Nobody Nobody (worker_at c) (λ v. item_at (map (dies_with n) c.workers) v) c.network c.network m node.scheduler (λ l i. i)
      (λ v x at home. item_map (dies_with n) c.workers v x at ∙ ap (λ z. Some z) (survives x (λ same. apart (sym home ∙ same)))) (k m node before live)
]
  where
    survives : (x : Worker) → (x.node ≡ n → ⊥) → dies_with n x ≡ x
    survives x other = at_test (λ b. (x.node == n) ≡ b → (if b then dead x else x) ≡ x) (x.node == n)
        (λ _ f. absurd (other (eqb-true x.node n f))) (λ _ _. refl) refl

store_event : (c : ClusterState) (n : ℕ) (f : Node → Node) → ((node : Node) → (f node).scheduler ≡ node.scheduler) → ((node : Node) →
    (f node).is_live ≡ node.is_live) →
    KeepsUses c → KeepsUses (record c { nodes = changed_at c.nodes n f })
store_event c n f same lives k m node e live = elim (changed_cases c.nodes n m f node e) [
  | inl (_, old, at, is) ↦ subst (Used Nobody Nobody (worker_at c) c.network m) (sym (ap (λ (y : Node). y.scheduler) is ∙ same old))
      (k m old at (sym (ap (λ (y : Node). y.is_live) is ∙ lives old) ∙ live))
  | inr (_, at) ↦ k m node at live
]

join_event : (c : ClusterState) → KeepsUses c → KeepsUses (record c { nodes = c.nodes ++ new_node c.slots ∷ [] })
join_event c k n node e live = elim (push_cases c.nodes n (new_node c.slots) node e) [
  | inl old ↦ k n node old live
  | inr (_, is) ↦ subst (λ (x : Node). Used Nobody Nobody (worker_at c) c.network n x.scheduler) is
      (record { slot_holders = λ w f. absurd (cc); answered = λ w f. absurd (cc); idle = λ w f. absurd (cc); leased = λ w a f. absurd (cc) })
]

-- ---- every event

happens_uses : (c : ClusterState) (e : Event) (handed : CommitInput) → refusal c e handed ≡ None → Knowing c → KeepsUses c → KeepsUses (happens c e handed).whole
happens_uses c (Claim w) handed e knowing k = claim_event c w e knowing k
happens_uses c (Commit j) handed e knowing k = commit_event c j handed (item_at c.jobs j) e knowing k
happens_uses c (Deliver i) handed e knowing k = deliver_event c i (item_at c.network i) refl knowing k
happens_uses c (Tick w) handed e knowing k =
    worker_uses_event c c.jobs c.made c.delivered w tick_step (passed (is_live_worker (worker_at c w)) NoWorker e) knowing
    (λ x at node home _ _ u. tick_step-kept AnyTold AnyOver GivenBy AnyPassed (Uses c w x.node x at None) (uses_kept c w x.node x at AnyTold AnyOver GivenBy None)
    (here c w x node) u) k
happens_uses c (Notice w v) handed e knowing k =
    worker_uses_event c c.jobs c.made c.delivered w (λ h. notice_step h v)
    (passed (is_live_worker (worker_at c w)) NoWorker (both_passed (no_worker c w) (unless (is_dead_worker (worker_at c v)) NotDead) e).0) knowing
    (λ x at node home _ _ u. notice_step-kept AnyTold AnyOver GivenBy AnyPassed (Uses c w x.node x at None) (uses_kept c w x.node x at AnyTold AnyOver GivenBy None)
    (here c w x node) v u) k
happens_uses c (NoticeNode w n) handed e knowing k =
    worker_uses_event c c.jobs c.made c.delivered w (λ h. notice_node_step h n)
    (passed (is_live_worker (worker_at c w)) NoWorker (both_passed (no_worker c w) (unless (is_dead_node (node_at c n)) NotDead) e).0) knowing
    (λ x at node home _ _ u. notice_node_step-kept AnyTold AnyOver GivenBy AnyPassed (Uses c w x.node x at None)
    (uses_kept c w x.node x at AnyTold AnyOver GivenBy None) (here c w x node) n (λ a i. tt) u) k
happens_uses c (Evict n o) handed e knowing k = store_event c n _ (λ _. refl) (λ _. refl) k
happens_uses c (Lose n o) handed e knowing k = store_event c n _ (λ _. refl) (λ _. refl) k
happens_uses c (Kill w) handed e knowing k = kill_event c w (passed (is_live_worker (worker_at c w)) NoWorker e) knowing k
happens_uses c (KillNode n) handed e knowing k = kill_node_event c n k
happens_uses c Join handed e knowing k = join_event c k

limited_uses : (c : ClusterState) (m : Transition) (b : Bool) (given : Option Job) → KeepsUses c → KeepsUses m.whole →
    KeepsUses (whole_after c (if b then takes m given else Refuses Limit))
limited_uses c m true given k l = l
limited_uses c m false given k l = k

decided_uses : (c : ClusterState) (e : Event) (handed : CommitInput) (code : Option Refusal) → refusal c e handed ≡ code → Knowing c → KeepsUses c →
    KeepsUses (whole_after c (decided c e handed code))
decided_uses c e handed None unrefused knowing k =
    limited_uses c (happens c e handed) (is_within_limits (happens c e handed).whole) (given_out c e) k (happens_uses c e handed unrefused knowing k)
decided_uses c e handed (Some code) refused knowing k = k

pub events_keep_uses : (c : ClusterState) (e : Event) (handed : CommitInput) → Knowing c → KeepsUses c → KeepsUses (whole_after c (answer c e handed))
events_keep_uses c e handed knowing k = decided_uses c e handed (refusal c e handed) refl knowing k

-- ---- the opening

pub opening_keeps_uses : (nodes slots : ℕ) → KeepsUses (first_whole nodes slots)
opening_keeps_uses nodes slots n node e live = elim (changed_cases (repeated nodes (new_node slots)) 1 n with_slot node e) [
  | inl (same, x, at, is) ↦
      let new : new_node slots ≡ x = one_of 1 nodes n (new_node slots) x (counted (repeated nodes (new_node slots)) n at) in
      let now : with_slot (new_node slots) ≡ node = ap with_slot new ∙ sym is in
      subst (λ (y : Node). Used Nobody Nobody (worker_at (first_whole nodes slots)) [] n y.scheduler) now (of_driver n same)
  | inr (_, at) ↦
      let new : new_node slots ≡ node = one_of 1 nodes n (new_node slots) node (counted (repeated nodes (new_node slots)) n at) in
      subst (λ (y : Node). Used Nobody Nobody (worker_at (first_whole nodes slots)) [] n y.scheduler) new
      (record { slot_holders = λ w f. absurd (cc); answered = λ w f. absurd (cc); idle = λ w f. absurd (cc); leased = λ w a f. absurd (cc) })
]
  where
    with_slot : Node → Node
    with_slot x = record x { scheduler = record x.scheduler { slot_holders = 1 ∷ [] } }

    one_holder : (w : ℕ) → has (1 ∷ []) w ≡ true → 1 ≡ w
    one_holder w f = elim (or_cases (1 == w) false f) [ inl g ↦ eqb-true 1 w g | inr g ↦ absurd (cc) ]

    of_driver : (n : ℕ) → n ≡ 1 → Used Nobody Nobody (worker_at (first_whole nodes slots)) [] n (with_slot (new_node slots)).scheduler
    of_driver n one = record {
      slot_holders = λ w f. inl (subst (IsUser (worker_at (first_whole nodes slots)) [] n) (one_holder w f)
          (record { here = record { worker = driver; there = refl; home = sym one; lives = refl }; why = inl refl }));
      answered = λ w f. absurd (cc);
      idle = λ w f. absurd (cc);
      leased = λ w a f. absurd (cc);
    }
