-- As long as nothing was killed or lost, every run keeps what is true of Pushes and Holds.
use Rattle.meaning.specs.Births.{birth_at}
use Rattle.meaning.specs.Values.{main_birth}
use Rattle.meaning.proofs.BirthLaws.{at_test, same_id-refl}
use Rattle.event_log.specs.Words.{births, born_in, same_attempt}
use Rattle.event_log.specs.Entries.{Attempt, Claim, Commit, Deliver, Ended, Entry, Event, Evict, In, Join, Kill, KillNode, Limit, Lose, main_attempt}
use Rattle.event_log.specs.Entries.{main_object, NoJob, NoMessage, NotDead, Notice, NoticeNode, NotReady, NoWorker, Refusal, Refused, Stale, Tick}
use Rattle.std.specs.List.{flat_map, list_any}
use Rattle.std.specs.Prelude.{Bool, false, if◌then◌else◌, is_some, not, true, ◌&&◌, ◌||◌}
use Rattle.std.proofs.Common.{[], ap, arith, inl, inr, length, List, None, Option, refl, Some, subst, suc, sym, zero, ℕ, ◌++◌, ◌+◌, ◌<◌, ◌∙◌, ◌∷◌, ◌≡◌, ◌≤◌}
use Rattle.std.proofs.Common.{◌⊎◌}
use Rattle.std.proofs.lemmas.Bool.{both_ways}
use Rattle.std.proofs.lemmas.List.Folds.{list_any-append}
use Rattle.sequence.proofs.Places.{and_right}
use Rattle.meaning.specs.Mains.{KeepsMainApart}
use Rattle.event_log.specs.Breaks.{Among}
use Rattle.event_log.specs.Events.{accepted_events, refused_next}
use Rattle.event_log.specs.Legal.{opening}
use Rattle.event_log.specs.Rules.{Setting}
use Rattle.event_log.proofs.WordLaws.{same_attempt-refl, same_attempt-true}
use Rattle.event_log.proofs.EventLaws.{accepted-append, accepted-event, accepted-refused}
use Rattle.protocol.specs.Answers.{Answer, Refuses, Takes, answer, decided, given_out, logged, takes, whole_after}
use Rattle.protocol.specs.Commits.{claim_step, commit_step}
use Rattle.protocol.specs.Deliveries.{reached, reached_from_worker}
use Rattle.protocol.specs.Events.{committed_by, delivered_by, delivered_to, happens, is_live_node, is_live_worker, with_committed, with_delivered, objects_made}
use Rattle.protocol.specs.Jobs.{JobRecord, CommitInput, Nothing, OfAnother, OfJob}
use Rattle.protocol.specs.Messages.{Ask, At, Back, CopyOf, Elsewhere, Failed, Fetch, Finished, FinishedAck, Give, Gone, Hold, HoldAck, Envelope, envelope, Message}
use Rattle.protocol.specs.Messages.{Missing, Endpoint, Push, TheNode, TheWorker, Unhold, Wait, Where}
use Rattle.protocol.specs.Nodes.{Node, NodeContext}
use Rattle.protocol.specs.Notices.{notice_node_step, notice_step}
use Rattle.protocol.specs.Numbered.{item_at}
use Rattle.protocol.specs.Refusals.{commit_refusal, is_dead_node, is_dead_worker, is_of_job, is_out_by, is_ready, is_within_limits, no_worker, or_refusal, refusal, unless}
use Rattle.protocol.specs.Releases.{release_step}
use Rattle.protocol.specs.Runs.{begins_run, is_free}
use Rattle.protocol.specs.Sets.{repeated}
use Rattle.protocol.specs.Slots.{node_reached}
use Rattle.protocol.specs.Steps.{WorkerContext}
use Rattle.protocol.specs.Tables.{Execution, Worker, new_worker}
use Rattle.protocol.specs.Ticks.{tick_step}
use Rattle.protocol.specs.Cluster.{after_worker, driver, first_whole, here, main_run, Transition, moved, node_at, node_does, node_does_by, there, ClusterState, worker_at}
use Rattle.protocol.specs.Cluster.{worker_does, worker_does_at, worker_does_by}
use Rattle.protocol_owed.specs.Courses.{has_begun}
use Rattle.protocol_owed.specs.Runs.{Handing, Running, after_event, after_events, opening_run}
use Rattle.protocol_owed.specs.Seen.{IsCalm, is_failure}
use Rattle.protocol_owed.proofs.CourseAll.{both_passed, passed}
use Rattle.protocol_owed.proofs.CourseEvents.{append_split, one_of}
use Rattle.protocol_owed.proofs.CourseRuns.{OutOf, out_of}
use Rattle.protocol_owed.proofs.Counting.{happens-counted, no_event, not_refused}
use Rattle.protocol_owed.proofs.Envelopes.{among-more, among-nothing}
use Rattle.protocol_owed.proofs.NodeMoves.{node_reached-kept}
use Rattle.owed_asks.specs.of_lease_discipline.Asks.{KeepsAsks}
use Rattle.owed_asks.specs.of_lease_discipline.Slots.{AreRight}
use Rattle.owed_asks.specs.of_lease_discipline.Told.{IsInStep}
use Rattle.owed_asks.proofs.of_lease_discipline.Opening.{only_driver}
use Rattle.owed_asks.proofs.Laws as A
use Rattle.owed_asks.proofs.Laws.{all_right, happens_network, one_more}
use Rattle.owed_replies.specs.Kept.{KeepsReplies}
use Rattle.owed_replies.proofs.Events.{IsOfNode, of_node_kept}
use Rattle.owed_replies.proofs.Happens.{IsThere, live_there}
use Rattle.owed_replies.proofs.Moves as R
use Rattle.owed_replies.proofs.Runs.{run_replies}
use Rattle.owed_replies.proofs.Quiet.{all_live}
use Rattle.owed_laws.proofs.HoldCases as C
use Rattle.owed_laws.proofs.HoldEvents as E
use Rattle.owed_laws.proofs.HoldEvents.{IsBelow, KeepsHolds, RunKeeps, below_more, push_by, run_later}
use Rattle.owed_laws.proofs.HoldHappens as V
use Rattle.owed_laws.proofs.HoldMoves.{RunHolds}

module _ (s : Setting) (log : List Entry) (c : ClusterState) (step : IsInStep s log c) (replies : KeepsReplies log c) (k : KeepsHolds log c) (seat : ℕ) where
  abbrev After : Event → Transition → Type 0
  After e m = V.After s log c step replies k seat e m

  abbrev Fits : Event → Transition → Type 0
  Fits e m = (a : After e m) → V.Goes s log c step replies k seat e m a

  -- ---- of nobody's attempt

  others_go : (e : Event) (m : Transition) → ((l : Envelope) → Among l m.out.envelopes → (n : ℕ) × (l.sender ≡ TheNode n)) →
      ((w : ℕ) (y : Worker) → worker_at m.whole w ≡ Some y → (worker_at c w ≡ Some y) ⊎ (y.run ≡ None)) →
      (After e m → (n w : ℕ) (from : Endpoint) (l : Message) (y : Worker) → e ≡ Deliver n → item_at c.network n ≡ Some (envelope from (TheWorker w) l) → worker_at c w ≡ Some y → ⊥) →
      Fits e m
  others_go e m envelopes workers to_nobody a = record {
    pushes = λ u w b spec i. absurd (by_node u (envelopes (push_by u w b spec) i));
    says = λ u w v b spec f o part i pushed. absurd (by_node w (envelopes (envelope (TheWorker w) (TheWorker v) (Hold f o)) i));
    runs = λ w y run at is. elim (workers w y at) [
      | inl was ↦ E.stays s log c step replies k e seat m a.after a.asks a.calm a.accepted a.network a.sent w y run was is
          (λ n from l is_it sent_it. to_nobody a n w from l y is_it sent_it was)
      | inr none ↦ absurd (nobody run (sym none ∙ is))
    ];
  }
    where
      by_node : (w : ℕ) → ((n : ℕ) × (TheWorker w ≡ TheNode n)) → ⊥
      by_node w f = let g = f.1 in absurd (cc)

      nobody : (run : Execution) → ◌≡◌ {A = Option Execution} None (Some run) → ⊥
      nobody run f = cc

  nothing_goes : (e : Event) (d : ClusterState) → d.workers ≡ c.workers →
      (After e (moved d) → (n w : ℕ) (from : Endpoint) (l : Message) (y : Worker) → e ≡ Deliver n → item_at c.network n ≡ Some (envelope from (TheWorker w) l) → worker_at c w ≡ Some y → ⊥) →
      Fits e (moved d)
  nothing_goes e d same to_nobody =
      others_go e (moved d) (λ l i. absurd (among-nothing l i)) (λ w y at. inl (ap (λ ws. item_at ws w) (sym same) ∙ at)) to_nobody

  -- ---- of a worker's

  module _ (e : Event) (jobs : List JobRecord) (made : ℕ) (delivered : List Bool) (me : ℕ) (x : Worker) (at : worker_at c me ≡ Some x) (live : x.is_live ≡ true)
      (node : Node) (home : node_at c x.node ≡ Some node) (f : WorkerContext → WorkerContext) where
    abbrev base : ClusterState
    base = record c { jobs = jobs; made = made; delivered = delivered }

    of_worker : Fits e (after_worker base me x.node (release_step (f (here base me x node)))) → Fits e (worker_does base me f)
    of_worker fits = subst (Fits e) (sym (ap (worker_does_by base me f) at ∙ ap (worker_does_at base me x f) home)) fits

  home_of : (w : ℕ) (x : Worker) → worker_at c w ≡ Some x → (node : Node) × (node_at c x.node ≡ Some node)
  home_of w x at = step.leases.homes w x at

  tick_fits : (w : ℕ) → no_worker c w ≡ None → Fits (Tick w) (worker_does c w tick_step)
  tick_fits w e =
      let x : IsThere (worker_at c w) = live_there (worker_at c w) (passed (is_live_worker (worker_at c w)) NoWorker e) in
      let n = home_of w x.worker x.at in
      of_worker (Tick w) c.jobs c.made c.delivered w x.worker x.at x.live n.0 n.1 tick_step
      (λ a. C.tick_goes s log c step replies k seat (Tick w) c.jobs c.made c.delivered w x.worker x.at x.live n.0 n.1 a (λ i v from l is. absurd (cc)) (λ i is. absurd (cc)))

  claim_fits : (w : ℕ) → or_refusal (no_worker c w) (unless (is_ready c w) NotReady) ≡ None →
      Fits (Claim w) (worker_does (record c { jobs = c.jobs ++ record { worker = w; is_committed = false } ∷ [] }) w (λ h. claim_step h (length c.jobs + 1)))
  claim_fits w e =
      let x : IsThere (worker_at c w) = live_there (worker_at c w) (passed (is_live_worker (worker_at c w)) NoWorker (both_passed (no_worker c w) (unless (is_ready c w) NotReady) e).0) in
      let n = home_of w x.worker x.at in
      let jobs : List JobRecord = c.jobs ++ record { worker = w; is_committed = false } ∷ [] in
      of_worker (Claim w) jobs c.made c.delivered w x.worker x.at x.live n.0 n.1 (λ h. claim_step h (length c.jobs + 1))
      (λ a. C.claim_goes s log c step replies k seat (Claim w) jobs c.made c.delivered w x.worker x.at x.live n.0 n.1 (length c.jobs + 1) a (λ i v from l is. absurd (cc)) (λ i is. absurd (cc)))

  notice_fits : (w v : ℕ) → or_refusal (no_worker c w) (unless (is_dead_worker (worker_at c v)) NotDead) ≡ None → Fits (Notice w v) (worker_does c w (λ h. notice_step h v))
  notice_fits w v e =
      let x : IsThere (worker_at c w) = live_there (worker_at c w) (passed (is_live_worker (worker_at c w)) NoWorker
      (both_passed (no_worker c w) (unless (is_dead_worker (worker_at c v)) NotDead) e).0) in
      let n = home_of w x.worker x.at in
      let h : WorkerContext = here c w x.worker n.0 in
      of_worker (Notice w v) c.jobs c.made c.delivered w x.worker x.at x.live n.0 n.1 (λ g. notice_step g v)
      (λ a. C.plain_goes s log c step replies k seat (Notice w v) c.jobs c.made c.delivered w x.worker x.at x.live n.0 n.1 (notice_step h v)
      (λ X Q kept q. R.notice_step-kept Q kept h v q) a (λ i u from l is. absurd (cc)) (λ run r j t i is. absurd (cc)))

  notice_node_fits : (w v : ℕ) → or_refusal (no_worker c w) (unless (is_dead_node (node_at c v)) NotDead) ≡ None → Fits (NoticeNode w v) (worker_does c w (λ h. notice_node_step h v))
  notice_node_fits w v e =
      let x : IsThere (worker_at c w) = live_there (worker_at c w) (passed (is_live_worker (worker_at c w)) NoWorker
      (both_passed (no_worker c w) (unless (is_dead_node (node_at c v)) NotDead) e).0) in
      let n = home_of w x.worker x.at in
      let h : WorkerContext = here c w x.worker n.0 in
      of_worker (NoticeNode w v) c.jobs c.made c.delivered w x.worker x.at x.live n.0 n.1 (λ g. notice_node_step g v)
      (λ a. C.plain_goes s log c step replies k seat (NoticeNode w v) c.jobs c.made c.delivered w x.worker x.at x.live n.0 n.1 (notice_node_step h v)
      (λ X Q kept q. R.notice_node_step-kept Q kept h v q) a (λ i u from l is. absurd (cc)) (λ run r j t i is. absurd (cc)))

  unhanded : (j : ℕ) (b d : Bool) (o : Option Refusal) → or_refusal (unless (d && false && b) NoJob) o ≡ None → Fits (Commit j) (moved c)
  unhanded j b true o f = absurd (cc)
  unhanded j b false o f = absurd (cc)

  commit_fits : (j : ℕ) (handed : CommitInput) (g : Option JobRecord) → commit_refusal c j handed g ≡ None → Fits (Commit j) (committed_by c j handed g)
  commit_fits j handed None e = absurd (cc)
  commit_fits j Nothing (Some g) e = unhanded j (is_out_by (worker_at c g.worker) j) (not g.is_committed) (unless (is_live_worker (worker_at c g.worker)) Stale) e
  commit_fits j OfAnother (Some g) e = unhanded j (is_out_by (worker_at c g.worker) j) (not g.is_committed) (unless (is_live_worker (worker_at c g.worker)) Stale) e
  commit_fits j (OfJob o) (Some g) e =
      let open_job : Bool = not g.is_committed && is_of_job (OfJob o) in
      let both = both_passed (unless (open_job && is_out_by (worker_at c g.worker) j) NoJob) (unless (is_live_worker (worker_at c g.worker)) Stale) e in
      let out : is_out_by (worker_at c g.worker) j ≡ true =
      and_right open_job (is_out_by (worker_at c g.worker) j) (passed (open_job && is_out_by (worker_at c g.worker) j) NoJob both.0) in
      let x : IsThere (worker_at c g.worker) = live_there (worker_at c g.worker) (passed (is_live_worker (worker_at c g.worker)) Stale both.1) in
      let n = home_of g.worker x.worker x.at in
      let run : OutOf x.worker.run j = out_of x.worker.run j (ap (λ y. is_out_by y j) (sym x.at) ∙ out) in
      let d : ClusterState = with_committed c j (objects_made o.births) in
      of_worker (Commit j) d.jobs d.made c.delivered g.worker x.worker x.at x.live n.0 n.1 (λ h. commit_step h o)
      (λ a. C.commit_goes s log c step replies k seat (Commit j) d.jobs d.made c.delivered g.worker x.worker x.at x.live n.0 n.1 o j run.run run.at run.out a
      (λ i v from l is. absurd (cc)) (λ i is. absurd (cc)))

  -- ---- deliveries

  module _ (i w : ℕ) (x : Worker) (at : worker_at c w ≡ Some x) (live : x.is_live ≡ true) (node : Node) (home : node_at c x.node ≡ Some node) where
    abbrev marks : List Bool
    marks = (with_delivered c i).delivered

    abbrev first : WorkerContext
    first = here (with_delivered c i) w x node

    abbrev Reaches : WorkerContext → Type 0
    Reaches g = Fits (Deliver i) (after_worker (with_delivered c i) w x.node (release_step g))

    plain : (u : ℕ) (m : Message) → item_at c.network i ≡ Some (envelope (TheWorker u) (TheWorker w) m) → C.is_ack m ≡ false →
        ((X : Type 0) (Q : WorkerContext → Type 0) → R.IsKeptWhere X (Unit {0}) Q → Q first → Q (reached_from_worker first u m)) → Reaches (reached_from_worker first u m)
    plain u m sent other kept a = C.plainly s log c step replies k seat (Deliver i) c.jobs c.made marks w x at live node home i (TheWorker u) m refl sent
        (reached_from_worker first u m) other kept a

    from_worker : (u : ℕ) (m : Message) → item_at c.network i ≡ Some (envelope (TheWorker u) (TheWorker w) m) → Reaches (reached first (TheWorker u) m)
    from_worker u (Push q spec) sent =
        at_test (λ t. Reaches (if t then begins_run first q spec else first)) (is_free x.run && not (has_begun q x.began))
        (λ _ a. C.begin_goes s log c step replies k seat (Deliver i) c.jobs c.made marks w x at live node home i u q spec refl sent a)
        (λ _ a. C.passed_over s log c step replies k seat (Deliver i) c.jobs c.made marks w x at live node home i (TheWorker u) (Push q spec) refl sent refl a)
    from_worker u (Finished q n rs) sent =
        λ a. C.finished s log c step replies k seat (Deliver i) c.jobs c.made marks w x at live node home i (TheWorker u) (Finished q n rs) refl sent refl u q n rs a
    from_worker u (HoldAck f o) sent =
        λ a. C.acked s log c step replies k seat (Deliver i) c.jobs c.made marks w x at live node home i (TheWorker u) (HoldAck f o) refl sent f o refl a
    from_worker u (FinishedAck q) sent = plain u (FinishedAck q) sent refl (λ X Q kept p. R.reached_from_worker-kept Q kept first u (FinishedAck q) tt p)
    from_worker u (Failed q f) sent = plain u (Failed q f) sent refl (λ X Q kept p. R.reached_from_worker-kept Q kept first u (Failed q f) tt p)
    from_worker u (Where o) sent = plain u (Where o) sent refl (λ X Q kept p. R.reached_from_worker-kept Q kept first u (Where o) tt p)
    from_worker u (At o number ns content) sent = plain u (At o number ns content) sent refl (λ X Q kept p. R.reached_from_worker-kept Q kept first u (At o number ns content) tt p)
    from_worker u (Gone o f) sent = plain u (Gone o f) sent refl (λ X Q kept p. R.reached_from_worker-kept Q kept first u (Gone o f) tt p)
    from_worker u (Missing o number n) sent = plain u (Missing o number n) sent refl (λ X Q kept p. R.reached_from_worker-kept Q kept first u (Missing o number n) tt p)
    from_worker u (Hold f o) sent = plain u (Hold f o) sent refl (λ X Q kept p. R.reached_from_worker-kept Q kept first u (Hold f o) tt p)
    from_worker u (Unhold f o why) sent = plain u (Unhold f o why) sent refl (λ X Q kept p. R.reached_from_worker-kept Q kept first u (Unhold f o why) tt p)
    from_worker u (Ask q t) sent = plain u (Ask q t) sent refl (λ X Q kept p. p)
    from_worker u (Give q t v) sent = plain u (Give q t v) sent refl (λ X Q kept p. p)
    from_worker u (Elsewhere q t n) sent = plain u (Elsewhere q t n) sent refl (λ X Q kept p. p)
    from_worker u (Wait q t) sent = plain u (Wait q t) sent refl (λ X Q kept p. p)
    from_worker u (Back q) sent = plain u (Back q) sent refl (λ X Q kept p. p)
    from_worker u (Fetch o number) sent = plain u (Fetch o number) sent refl (λ X Q kept p. p)
    from_worker u (CopyOf o number content) sent = plain u (CopyOf o number content) sent refl (λ X Q kept p. p)

    reaches : (from : Endpoint) (m : Message) → item_at c.network i ≡ Some (envelope from (TheWorker w) m) → Reaches (reached first from m)
    reaches (TheWorker u) m sent = from_worker u m sent
    reaches (TheNode n) m sent = λ a. C.from_node s log c step replies k seat (Deliver i) c.jobs c.made marks w x at live node home i (TheNode n) m refl sent n refl m a

  same_envelope : (p q : Envelope) → ◌≡◌ {A = Option Envelope} (Some p) (Some q) → p ≡ q
  same_envelope p q f = cc

  number_is : (i n : ℕ) → Deliver i ≡ Deliver n → i ≡ n
  number_is i n f = cc

  receiver_is : (i n w : ℕ) (l : Envelope) (from : Endpoint) (says : Message) → item_at c.network i ≡ Some l → Deliver i ≡ Deliver n →
      item_at c.network n ≡ Some (envelope from (TheWorker w) says) → l.receiver ≡ TheWorker w
  receiver_is i n w l from says sent is at_n =
      ap (λ (z : Envelope). z.receiver) (same_envelope l (envelope from (TheWorker w) says) (sym sent ∙ subst (λ q. item_at c.network q ≡ Some (envelope from (TheWorker w) says))
      (sym (number_is i n is)) at_n))

  envelope_fits : (i : ℕ) (l : Envelope) → item_at c.network i ≡ Some l → (to : Endpoint) → l.receiver ≡ to → Fits (Deliver i) (delivered_to (with_delivered c i) l to)
  envelope_fits i l sent (TheWorker w) to =
      at_test (λ t. is_live_worker (worker_at c w) ≡ t → Fits (Deliver i) (if t then worker_does (with_delivered c i) w (λ h. reached h l.sender l.message) else moved (with_delivered c i)))
      (is_live_worker (worker_at c w))
      (λ _ lives.
      let x : IsThere (worker_at c w) = live_there (worker_at c w) lives in
      let n = home_of w x.worker x.at in
      of_worker (Deliver i) c.jobs c.made (with_delivered c i).delivered w x.worker x.at x.live n.0 n.1 (λ h. reached h l.sender l.message)
      (reaches i w x.worker x.at x.live n.0 n.1 l.sender l.message (sent ∙ ap (λ q. Some (envelope l.sender q l.message)) to)))
      (λ _ gone. nothing_goes (Deliver i) (with_delivered c i) refl (λ a n v from says y is at_n at_v. dead gone a n v from says y is at_n at_v)) refl
    where
      same_number : (v u : ℕ) → TheWorker v ≡ TheWorker u → v ≡ u
      same_number v u f = cc

      dead : is_live_worker (worker_at c w) ≡ false → After (Deliver i) (moved (with_delivered c i)) → (n v : ℕ) (from : Endpoint) (says : Message) (y : Worker) → Deliver i ≡ Deliver n →
          item_at c.network n ≡ Some (envelope from (TheWorker v) says) → worker_at c v ≡ Some y → ⊥
      dead gone a n v from says y is at_n at_v =
          let who : w ≡ v = same_number w v (sym to ∙ receiver_is i n v l from says sent is at_n) in
          let here_it : worker_at c w ≡ Some y = subst (λ z. worker_at c z ≡ Some y) (sym who) at_v in
          let lives : y.is_live ≡ true = all_live s (log ++ In (Deliver i) seat ∷ []) (with_delivered c i) a.after.sound.between a.calm v y at_v in
          both_ways (is_live_worker (worker_at c w)) gone (ap is_live_worker here_it ∙ lives)
  envelope_fits i l sent (TheNode n) to =
      at_test (λ t. Fits (Deliver i) (if t then node_does (with_delivered c i) n (λ h. node_reached h l.sender l.message) else moved (with_delivered c i))) (is_live_node (node_at c n))
      (λ _. by_node (node_at c n)) (λ _. nothing_goes (Deliver i) (with_delivered c i) refl (λ a m v from says y is at_m at_v. to_node m v from says is at_m))
    where
      to_node : (m v : ℕ) (from : Endpoint) (says : Message) → Deliver i ≡ Deliver m → item_at c.network m ≡ Some (envelope from (TheWorker v) says) → ⊥
      to_node m v from says is at_m = let f : TheNode n ≡ TheWorker v = sym to ∙ receiver_is i m v l from says sent is at_m in absurd (cc)

      by_node : (o : Option Node) → Fits (Deliver i) (node_does_by (with_delivered c i) n (λ h. node_reached h l.sender l.message) o)
      by_node None = nothing_goes (Deliver i) (with_delivered c i) refl (λ a m v from says y is at_m at_v. to_node m v from says is at_m)
      by_node (Some node) =
          let t : NodeContext = node_reached (there (with_delivered c i) n node) l.sender l.message in
          let of_node : IsOfNode t = node_reached-kept IsOfNode of_node_kept (there (with_delivered c i) n node) l.sender l.message
          (record { envelopes = λ q j. absurd (among-nothing q j); endless = λ q r j. among-nothing _ j; accepts_none = λ q j. among-nothing _ j }) in
          others_go (Deliver i) (node_does_by (with_delivered c i) n (λ h. node_reached h l.sender l.message) (Some node)) of_node.envelopes
          (λ w y at. elim (append_split c.workers (repeated t.opened (new_worker n)) w y at) [
            | inl was ↦ inl was
            | inr (_, (j, g)) ↦ inr (ap (λ (z : Worker). z.run) (sym (one_of j t.opened w (new_worker n) y g)))
          ]) (λ a m v from says y is at_m at_v. to_node m v from says is at_m)

  nobody : (l : Envelope) → ◌≡◌ {A = Option Envelope} None (Some l) → ⊥
  nobody l f = cc

  deliver_fits : (i : ℕ) (o : Option Envelope) → item_at c.network i ≡ o → Fits (Deliver i) (delivered_by c i o)
  deliver_fits i None at = λ a. let l = a.sent i refl in absurd (nobody l.0 (sym at ∙ l.1))
  deliver_fits i (Some l) at = envelope_fits i l at l.receiver refl

  -- ---- every event

  not_calm : (e : Event) (m : Transition) → is_failure e ≡ true → Fits e m
  not_calm e m fails a = absurd (both_ways (list_any is_failure (accepted_events (log ++ In e seat ∷ m.out.entries))) a.calm
      (ap (list_any is_failure) a.accepted ∙ list_any-append is_failure (accepted_events log) (e ∷ []) ∙ ap (λ t. list_any is_failure (accepted_events log) || (t || false)) fails ∙
      or_true (list_any is_failure (accepted_events log))))
    where
      or_true : (t : Bool) → (t || (true || false)) ≡ true
      or_true true = refl
      or_true false = refl

  event_fits : (e : Event) (handed : CommitInput) → refusal c e handed ≡ None → Fits e (happens c e handed)
  event_fits (Claim w) handed f = claim_fits w f
  event_fits (Commit j) handed f = commit_fits j handed (item_at c.jobs j) f
  event_fits (Deliver i) handed f = deliver_fits i (item_at c.network i) refl
  event_fits (Tick w) handed f = tick_fits w f
  event_fits (Notice w v) handed f = notice_fits w v f
  event_fits (NoticeNode w n) handed f = notice_node_fits w n f
  event_fits (Evict n o) handed f = nothing_goes (Evict n o) _ refl (λ a i w from l y is. absurd (cc))
  event_fits (Lose n o) handed f = not_calm (Lose n o) _ refl
  event_fits (Kill w) handed f = not_calm (Kill w) _ refl
  event_fits (KillNode n) handed f = not_calm (KillNode n) _ refl
  event_fits Join handed f = nothing_goes Join _ refl (λ a i w from l y is. absurd (cc))

-- ---- accepted or refused

-- what was calm later was calm before
calm_back : (log es : List Entry) → refused_next es ≡ false → IsCalm (log ++ es) → IsCalm log
calm_back log es unrefused calm = left (list_any is_failure (accepted_events log)) (list_any is_failure (accepted_events es))
    (sym (list_any-append is_failure (accepted_events log) (accepted_events es)) ∙ ap (list_any is_failure) (sym (accepted-append log es unrefused)) ∙ calm)
  where
    left : (p q : Bool) → (p || q) ≡ false → p ≡ false
    left true q f = f
    left false q f = refl

module _ (s : Setting) (log : List Entry) (c : ClusterState) (step : IsInStep s log c) (replies : KeepsReplies log c) (e : Event) (seat : ℕ) (handed : CommitInput) where
  abbrev Keeps : Answer → Type 0
  Keeps a = IsInStep s (log ++ logged e seat a) (whole_after c a) → KeepsAsks (whole_after c a) → IsCalm (log ++ logged e seat a) →
      KeepsHolds log c → KeepsHolds (log ++ logged e seat a) (whole_after c a)

  sent_before : refusal c e handed ≡ None → (n : ℕ) → e ≡ Deliver n → (l : Envelope) × (item_at c.network n ≡ Some l)
  sent_before f n is = by_envelope (item_at c.network n) refl (subst (λ d. refusal c d handed ≡ None) is f)
    where
      by_envelope : (o : Option Envelope) → item_at c.network n ≡ o → unless (is_some (item_at c.network n)) NoMessage ≡ None → (l : Envelope) × (item_at c.network n ≡ Some l)
      by_envelope None at g = let h : unless (is_some (item_at c.network n)) NoMessage ≡ Some NoMessage = ap (λ o. unless (is_some o) NoMessage) at in absurd (cc)
      by_envelope (Some l) at g = (l, at)

  taken_keeps : refusal c e handed ≡ None → Keeps (takes (happens c e handed) (given_out c e))
  taken_keeps unrefused after asks calm k =
      let m : Transition = happens c e handed in
      let q = (happens-counted c e handed).quiet in
      let a : V.After s log c step replies k seat e m = record {
        after = after;
        asks = asks;
        calm = calm;
        accepted = accepted-event log e seat m.out.entries (no_event m.out.entries q) ∙
            ap (λ t. accepted_events log ++ (if t then [] else e ∷ [])) (not_refused m.out.entries q);
        network = happens_network c e handed;
        sent = sent_before unrefused;
      } in
      E.gone s log c step replies k e seat m a.after a.asks a.calm a.accepted a.network a.sent (event_fits s log c step replies k seat e handed unrefused a)

  refused_keeps : (code : Refusal) → Keeps (Refuses code)
  refused_keeps code after asks calm k = record {
    pushes = k.pushes;
    behind = λ p i u w v a spec f o part less pushed hold.
        let end = k.behind p i u w v a spec f o part less pushed hold in
        (end.0, among-more log (In e seat ∷ Refused code ∷ []) (Ended a end.0) end.1);
    runs = λ w x run at is.
        let r = k.runs w x run at is in
        record {
          place = r.place;
          within = r.within;
          pushed = r.pushed;
          holds = subst (λ es. RunHolds (log ++ In e seat ∷ Refused code ∷ []) c.network es w r.place run) (sym (accepted-refused log e seat code))
              (run_later log (In e seat ∷ Refused code ∷ []) c.network (accepted_events log) w r.place run r.holds);
          apart = λ a begun own. below_more log (In e seat ∷ Refused code ∷ []) a run.base.serial (r.apart a begun own);
        };
  }

  limited_keeps : (t : Bool) → refusal c e handed ≡ None → Keeps (if t then takes (happens c e handed) (given_out c e) else Refuses Limit)
  limited_keeps true unrefused = taken_keeps unrefused
  limited_keeps false unrefused = refused_keeps Limit

  decided_keeps : (code : Option Refusal) → refusal c e handed ≡ code → Keeps (decided c e handed code)
  decided_keeps None is = limited_keeps (is_within_limits (happens c e handed).whole) is
  decided_keeps (Some code) is = refused_keeps code

  pub event_holds : Keeps (answer c e handed)
  event_holds = decided_keeps (refusal c e handed) refl

-- ---- runs

opening_holds : (nodes slots : ℕ) → KeepsHolds opening (first_whole nodes slots)
opening_holds nodes slots = record {
  pushes = λ u w a spec i. absurd (among-nothing _ i);
  behind = λ p i u w v a spec f o part less pushed hold. absurd (none p pushed);
  runs = λ w x run at is. by_run w x run (only_driver w x at) is;
}
  where
    none : {l : Envelope} (p : ℕ) → item_at [] p ≡ Some l → ⊥
    none zero e = absurd (cc)
    none (suc p) e = absurd (cc)

    same_run : (y z : Execution) → ◌≡◌ {A = Option Execution} (Some y) (Some z) → y ≡ z
    same_run y z i = cc

    main_born : (es : List Entry) → birth_at (births es) main_object ≡ Some main_birth
    main_born es = ap (λ t. if t then Some main_birth else birth_at (flat_map born_in es) main_object) (same_id-refl main_object)

    of_main : (log : List Entry) (w : ℕ) (x : Worker) → driver ≡ x → (run : Execution) → main_run ≡ run → RunKeeps log [] (accepted_events log) w x run
    of_main log w x who run is = record {
      place = 0;
      within = omega arith;
      pushed = λ other. absurd (both_ways (same_attempt run.attempt main_attempt) other (ap (λ (y : Execution). same_attempt y.attempt main_attempt) (sym is) ∙ same_attempt-refl main_attempt));
      holds = subst (RunHolds log [] (accepted_events log) w 0) is (record {
        over = λ f. absurd (not_yet f);
        each = λ j there. absurd (among-nothing j there);
        held = λ other j there. absurd (among-nothing j there);
      });
      apart = λ a begun own. only_one a (ap (λ (y : Worker). has_begun a y.began) who ∙ begun) is;
    }
      where
        not_yet : false ≡ true → ⊥
        not_yet f = cc

        only_one : (a : Attempt) → has_begun a (main_attempt ∷ []) ≡ true → main_run ≡ run → IsBelow log a run.base.serial
        only_one a f same =
            let main : main_attempt ≡ a = same_attempt-true main_attempt a (first (same_attempt main_attempt a) f) in
            let low : run.base.serial ≡ 1 = ap (λ (y : Execution). y.base.serial) (sym same) in
            subst (IsBelow log a) (sym low) (subst (λ d. IsBelow log d 1) main (main_birth, main_born log, omega arith))
          where
            first : (t : Bool) → (t || false) ≡ true → t ≡ true
            first true g = refl
            first false g = g

    by_run : (w : ℕ) (x : Worker) (run : Execution) → (w ≡ 1) × (driver ≡ x) → x.run ≡ Some run → RunKeeps opening [] (accepted_events opening) w x run
    by_run w x run d is = of_main opening w x d.1 run (same_run main_run run (ap (λ (y : Worker). y.run) d.1 ∙ is))

module _ (s : Setting) (slots : ℕ) (some : 0 < s.nodes) (slot : 1 ≤ slots) (apart : KeepsMainApart s.script) where
  abbrev begin : Running
  begin = opening_run s.nodes slots

  abbrev Holding_so : Running → Type 0
  Holding_so r = IsCalm r.log → KeepsHolds r.log r.whole

  -- one more event
  one_event : (before : List Handing) (g : Handing) → AreRight s begin before → AreRight s begin (before ++ g ∷ []) → Holding_so (after_events begin before) →
      Holding_so (after_event (after_events begin before) g)
  one_event before g right also k calm =
      let r : Running = after_events begin before in
      let now : A.RunKeeps s r = A.runs_keep s slots some slot apart before right in
      let then_so : A.RunKeeps s (after_event r g) = subst (A.RunKeeps s) (one_more begin before g) (A.runs_keep s slots some slot apart (before ++ g ∷ []) also) in
      event_holds s r.log r.whole now.step (run_replies s slots some apart before right).replies g.event g.seat g.handed then_so.step then_so.asks calm
      (k (calm_back r.log (logged g.event g.seat (answer r.whole g.event g.handed)) (begins_in (answer r.whole g.event g.handed)) calm))
    where
      begins_in : (a : Answer) → refused_next (logged g.event g.seat a) ≡ false
      begins_in (Takes step) = refl
      begins_in (Refuses code) = refl

  all_events : (before gs : List Handing) → AreRight s begin before → AreRight s (after_events begin before) gs → Holding_so (after_events begin before) →
      Holding_so (after_events (after_events begin before) gs)
  all_events before [] right rest k = k
  all_events before (g ∷ gs) right rest k =
      let also : AreRight s begin (before ++ g ∷ []) = all_right s begin before g right rest.0 in
      let next : Holding_so (after_event (after_events begin before) g) = one_event before g right also k in
      subst (λ q. Holding_so (after_events q gs)) (one_more begin before g)
      (all_events (before ++ g ∷ []) gs also (subst (λ q. AreRight s q gs) (sym (one_more begin before g)) rest.1)
      (subst Holding_so (sym (one_more begin before g)) next))

  pub run_holds : (gs : List Handing) → AreRight s begin gs → IsCalm (after_events begin gs).log → KeepsHolds (after_events begin gs).log (after_events begin gs).whole
  run_holds gs right = all_events [] gs tt right (λ _. opening_holds s.nodes slots)
