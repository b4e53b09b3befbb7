-- How an attempt begins at its worker, is given out and is committed: the leases of its node stay in order.
use Rattle.std.proofs.Common.{◌≡◌, ◌≢◌, ℕ, ◌+◌, List, length, Some, None, Option, refl, ap, sym, subst, ◌∙◌, ◌⊎◌, inl, inr}
use Rattle.std.specs.Prelude.{Bool, true, false, if◌then◌else◌, not, ◌&&◌}
use Rattle.std.proofs.lemmas.Bool.{both_ways, false_from_ne_true}
use Rattle.sequence.proofs.Places.{and_right, list_any-push_cases, list_any-push_left, list_any-push_right}
use Rattle.meaning.proofs.BirthLaws.{at_test}
use Rattle.meaning.specs.Values.{Birth, Id, Outcome}
use Rattle.event_log.specs.Commits.{commit_entries}
use Rattle.event_log.specs.Entries.{Attempt, Entry}
use Rattle.event_log.specs.Words.{same_attempt}
use Rattle.event_log.specs.Breaks.{Among}
use Rattle.event_log.proofs.WordLaws.{same_attempt-true, same_attempt-refl}
use Rattle.protocol_laws.specs.of_protocol.Numbered.{item_at}
use Rattle.protocol_laws.specs.of_protocol.Sets.{has}
use Rattle.protocol_laws.specs.of_protocol.Messages.{Envelope, envelope, Message, Endpoint, TheWorker, TheNode, Push}
use Rattle.protocol_laws.specs.of_protocol.Jobs.{AtEnd, AtGet, Outcomes, Stopped, stop_of}
use Rattle.protocol_laws.specs.of_protocol.Nodes.{posts}
use Rattle.protocol_laws.specs.of_protocol.Tables.{Fetching, HasEnded, HasFaulted, Out, Phase, Ready, Execution, Waits, Worker, has_stopped, new_run}
use Rattle.protocol_laws.specs.of_protocol.Steps.{WorkerContext, logs_all, own_id, with_phase, with_run}
use Rattle.protocol_laws.specs.of_protocol.Runs.{begins_run, is_free, leaves_if_free, push_reached}
use Rattle.protocol_laws.specs.of_protocol.Commits.{keeps_contents, bears_all, claim_by, claim_step, commit_by, commit_step, ends, next_id_here, stops_by, with_outcomes}
use Rattle.protocol_laws.specs.of_protocol.Refusals.{is_ready_phase, is_ready_run}
use Rattle.protocol_laws.specs.of_protocol.Cluster.{ClusterState}
use Rattle.protocol_laws.specs.of_protocol_owed.Courses.{GoesOn, HasStopped, Rests, has_begun}
use Rattle.protocol_laws.specs.of_protocol_owed.Told.{pace_in, pace_by}
use Rattle.protocol_laws.proofs.of_protocol_owed.TellingMore.{stopped_pace, stopped_not, rests_not}
use Rattle.protocol_laws.proofs.of_smallest_steps.Smallest.{AnyPassed}
use Rattle.lease_discipline.specs.Discipline.{Look, Gave, IsBegunBy, IsDoneAt, IsJobOf, IsLeasedFor, IsOfNode, IsPromised, IsPushed, NodeKeeps, WorkerKeeps}
use Rattle.lease_discipline.proofs.Follows.{Grows, true_more}
use Rattle.lease_discipline.proofs.Moves.{IsKept, bears_all-kept, keeps_contents-kept, leaves_if_free-kept, needs-kept}
use Rattle.lease_discipline.proofs.Nodes.{IsUnwanted}
use Rattle.lease_discipline.proofs.Theres.{envelope_cases}
use Rattle.lease_discipline.proofs.Heres.{Does, IsToldBy, IsOverOf, IsGivenBy, at_me, at_other, busy_unwanted, by_number, does_kept, frees_does, logs_does}
use Rattle.lease_discipline.proofs.Heres.{look_here, look_with, mine, run_does, sent_here}
use Rattle.lease_discipline.proofs.Heres.{was_sent}
use Rattle.protocol_laws.proofs.of_step_laws.Lists.{changed-length}

rests_not_stopped : Rests ≡ HasStopped → ⊥
rests_not_stopped e = absurd (cc)

ready_out : (j : ℕ) → Ready ≡ Out j → ⊥
ready_out j e = absurd (cc)

waits_out : (y : Id) (f : Option Fetching) (j : ℕ) → Waits y f ≡ Out j → ⊥
waits_out y f j e = absurd (cc)

ended_out : (cs : List Outcome) (j : ℕ) → HasEnded cs ≡ Out j → ⊥
ended_out cs j e = absurd (cc)

pub ready_goes : (p : Phase) → is_ready_phase p ≡ true → has_stopped p ≡ true → ⊥
ready_goes Ready e f = absurd (cc)
ready_goes (Out j) e f = absurd (cc)
ready_goes (Waits y g) e f = absurd (cc)
ready_goes (HasEnded c) e f = absurd (cc)
ready_goes (HasFaulted g) e f = absurd (cc)

module _ (c : ClusterState) (me n : ℕ) (old : Worker) (there : item_at c.workers me ≡ Some old) where
  abbrev Here_does : WorkerContext → Type 0
  Here_does = Does c me n old there

  abbrev Kept : (WorkerContext → Type 0) → Type 0
  Kept P = IsKept (IsToldBy c me n old there) (IsOverOf c me n old there) (IsGivenBy c me n old there) AnyPassed P

  kept : Kept Here_does
  kept = does_kept c me n old there

  -- ---- a Push that begins an attempt

  module _ (h : WorkerContext) (a : Attempt) (spec : Birth) (d : Here_does h) (live : h.worker.is_live ≡ true) (u : ℕ)
      (came : Among (envelope (TheWorker u) (TheWorker me) (Push a spec)) c.network) (new : has_begun a h.worker.began ≡ false) where
    abbrev x : Worker
    x = h.worker

    abbrev next : Worker
    next = (begins_run h a spec).worker

    abbrev opened : ℕ
    opened = h.there.opened

    abbrev look : Look
    look = look_with c me n old there x opened

    abbrev look_next : Look
    look_next = look_with c me n old there next opened

    abbrev sent : List Envelope
    sent = sent_here c me n old there h

    x_there : look me ≡ Some x
    x_there = at_me c me n old there x opened

    next_there : look_next me ≡ Some next
    next_there = at_me c me n old there next opened

    elsewhere : (w : ℕ) → w ≢ me → look_next w ≡ look w
    elsewhere w apart = at_other c me n old there x next opened w apart

    is_next : (w : ℕ) (z : Worker) → w ≡ me → look_next w ≡ Some z → next ≡ z
    is_next w z same e = let g : ◌≡◌ {A = Option Worker} (Some next) (Some z) = sym next_there ∙ subst (λ v. look_next v ≡ Some z) same e in cc

    is_x : (w : ℕ) (z : Worker) → w ≡ me → look w ≡ Some z → x ≡ z
    is_x w z same e = let g : ◌≡◌ {A = Option Worker} (Some x) (Some z) = sym x_there ∙ subst (λ v. look v ≡ Some z) same e in cc

    pushed : IsPushed sent (TheWorker u) me a
    pushed = d.goes.workers.envelopes (envelope (TheWorker u) (TheWorker me) (Push a spec))
        (was_sent c me n old there h (envelope (TheWorker u) (TheWorker me) (Push a spec)) came)

    -- the node that gave it is its own
    given_here : Gave sent n a me
    given_here =
        let gave : Gave sent pushed.node a me = pushed.given in
        let i : IsOfNode look pushed.node me = d.goes.workers.envelopes _ gave.1 in
        let is : x ≡ i.worker = is_x me i.worker refl i.there in
        subst (λ m. Gave sent m a me) (sym i.home ∙ ap (λ (z : Worker). z.node) (sym is) ∙ d.home) gave

    promise : IsPromised h.there.node.scheduler me x a
    promise = d.goes.there.promised me x a x_there live given_here new

    begun_cases : (b : Attempt) → has_begun b next.began ≡ true → (has_begun b x.began ≡ true) ⊎ (a ≡ b)
    begun_cases b e = elim (list_any-push_cases (λ i. same_attempt i b) x.began a e) [ inl f ↦ inl f | inr f ↦ inr (same_attempt-true a b f) ]

    begun_still : (b : Attempt) → has_begun b x.began ≡ true → has_begun b next.began ≡ true
    begun_still b e = list_any-push_left (λ i. same_attempt i b) x.began a e

    begun_now : has_begun a next.began ≡ true
    begun_now = list_any-push_right (λ i. same_attempt i a) x.began a (same_attempt-refl a)

    next_keeps : WorkerKeeps c.jobs sent me next
    next_keeps =
        let k = mine c me n old there h d in
        record {
          began = λ b e. elim (begun_cases b e) [
            | inl f ↦ k.began b f
            | inr same ↦ subst (λ i. IsBegunBy sent me i) same (inr (u, spec, was_sent c me n old there h _ came))
          ];
          present = λ r e. let is : new_run a spec (own_id h (length x.objects + 1)) ≡ r = cc in
              subst (λ (q : Execution). has_begun q.attempt next.began ≡ true) is begun_now;
          stopped = λ r e o. let is : new_run a spec (own_id h (length x.objects + 1)) ≡ r = cc in
              absurd (both_ways r.is_over (ap (λ (q : Execution). q.is_over) (sym is)) o);
          out = λ r j e o. let is : new_run a spec (own_id h (length x.objects + 1)) ≡ r = cc in absurd (ready_out j (ap (λ (q : Execution). q.phase) is ∙ o));
          runs = k.runs;
        }

    done_still : (b : Attempt) → IsDoneAt b x → IsDoneAt b next
    done_still b i = record {
      listed = begun_still b i.listed;
      over = λ r e same.
          let is : new_run a spec (own_id h (length x.objects + 1)) ≡ r = cc in
          let this : a ≡ b = ap (λ (q : Execution). q.attempt) is ∙ same in
          absurd (both_ways (has_begun a x.began) new (ap (λ j. has_begun j x.began) this ∙ i.listed));
    }

    grows : Grows look look_next
    grows w z e = elim (by_number w me) [
      | inl same ↦
          let is : x ≡ z = is_x w z same e in (
            next,
            subst (λ v. look_next v ≡ Some next) (sym same) next_there,
            ap (λ (y : Worker). y.node) is,
            λ b i. done_still b
                (subst (IsDoneAt b) (sym is) i),
          )
      | inr apart ↦ (z, elsewhere w apart ∙ e, refl, λ b i. i)
    ]

    node_keeps : NodeKeeps look_next sent n h.there.node.scheduler
    node_keeps =
        let k = d.goes.there in
        record {
          idle = λ w e. let i = k.idle w e in elim (by_number w me) [
            | inl same ↦ absurd (both_ways (has h.there.node.scheduler.slot_holders me) (ap (has h.there.node.scheduler.slot_holders) (sym same) ∙ i.slotless) promise.slot)
            | inr apart ↦ record {
              worker = i.worker;
              there = elsewhere w apart ∙ i.there;
              home = i.home;
              free = i.free;
              slotless = i.slotless;
              unanswered = i.unanswered;
            }
          ];
          promised = λ w z b at alive given unbegun. elim (by_number w me) [
            | inl same ↦ absurd (no_other w z b same at given unbegun)
            | inr apart ↦ k.promised w z b (sym (elsewhere w apart) ∙ at) alive given unbegun
          ];
          busy = λ w z run at home e over. elim (by_number w me) [
            | inl same ↦ leased_now w z run same (is_next w z same at) e
            | inr apart ↦ k.busy w z run (sym (elsewhere w apart) ∙ at) home e over
          ];
          replied = k.replied;
        }
      where
        -- it is wanted for no other attempt
        no_other : (w : ℕ) (z : Worker) (b : Attempt) → w ≡ me → look_next w ≡ Some z → Gave sent n b w → has_begun b z.began ≡ false → ⊥
        no_other w z b same at given unbegun =
            let is : next ≡ z = is_next w z same at in
            let not_now : has_begun b next.began ≡ false = ap (λ (y : Worker). has_begun b y.began) is ∙ unbegun in
            let not_then : has_begun b x.began ≡ false = false_from_ne_true _ (λ f. both_ways _ not_now (begun_still b f)) in
            let p : IsPromised h.there.node.scheduler me x b = d.goes.there.promised me x b x_there live (subst (λ v. Gave sent n b v) same given) not_then in
            let this : b ≡ a = promise.sole b p.leased in
            both_ways (has_begun b next.began) not_now (ap (λ j. has_begun j next.began) this ∙ begun_now)

        leased_now : (w : ℕ) (z : Worker) (run : Execution) → w ≡ me → next ≡ z → z.run ≡ Some run → IsLeasedFor h.there.node.scheduler w run.attempt
        leased_now w z run same is e =
            let f : ◌≡◌ {A = Option Execution} next.run (Some run) = ap (λ (y : Worker). y.run) is ∙ e in
            let this : new_run a spec (own_id h (length x.objects + 1)) ≡ run = cc in
            let attempts : a ≡ run.attempt = ap (λ (q : Execution). q.attempt) this in
            subst (λ v. IsLeasedFor h.there.node.scheduler v run.attempt) (sym same)
            (subst (λ b. IsLeasedFor h.there.node.scheduler me b) attempts promise.sole)

    begins_does : Here_does (begins_run h a spec)
    begins_does =
        let g = d.goes in
        record {
          who = d.who;
          home = d.home;
          goes = record {
            number = g.number;
            counted = g.counted ∙ changed-length c.workers me (λ _. x) ∙ sym (changed-length c.workers me (λ _. next));
            workers = record {
              each = λ w z e. elim (by_number w me) [
                | inl same ↦ subst (λ v. WorkerKeeps c.jobs sent v z) (sym same) (subst (WorkerKeeps c.jobs sent me) (is_next w z same e) next_keeps)
                | inr apart ↦ g.workers.each w z (sym (elsewhere w apart) ∙ e)
              ];
              envelopes = λ l i. true_more look look_next sent sent grows (λ _ j. j) l (g.workers.envelopes l i);
            };
            there = node_keeps;
            alone = g.alone;
          };
        }

  pub push_does : (h : WorkerContext) (a : Attempt) (spec : Birth) → h.worker.is_live ≡ true → (u : ℕ) →
      Among (envelope (TheWorker u) (TheWorker me) (Push a spec)) c.network →
      Here_does h → Here_does (push_reached h a spec)
  push_does h a spec live u came d =
      at_test (λ b. (is_free h.worker.run && not (has_begun a h.worker.began)) ≡ b → Here_does (if b then begins_run h a spec else h))
      (is_free h.worker.run && not (has_begun a h.worker.began))
      (λ _ e. begins_does h a spec d live u came (negated (has_begun a h.worker.began) (and_right (is_free h.worker.run) (not (has_begun a h.worker.began)) e)))
      (λ _ _. d) refl
    where
      negated : (b : Bool) → not b ≡ true → b ≡ false
      negated true e = absurd (cc)
      negated false e = refl

  -- ---- a claim

  pub claim_does : (h : WorkerContext) (j : ℕ) → is_ready_run h.worker.run ≡ true → IsJobOf c.jobs me j → Here_does h → Here_does (claim_step h j)
  claim_does h j ready job d = by_run h.worker.run refl ready
    where
      by_run : (r : Option Execution) → h.worker.run ≡ r → is_ready_run r ≡ true → Here_does (claim_by h j r)
      by_run None e f = d
      by_run (Some run) e f =
          run_does c me n old there h run (record run { phase = Out j }) e refl (λ o. o)
          (λ o. absurd (ready_goes run.phase f ((mine c me n old there h d).stopped run e o)))
          (λ i o. let same : j ≡ i = cc in subst (IsJobOf c.jobs me) same job) d

  -- ---- a commit

  -- an attempt that goes on does so, whatever is borne
  abbrev GoesOnHere : WorkerContext → Type 0
  GoesOnHere h = pace_by h.worker.run ≡ GoesOn

  not_waiting : (run : Execution) (r : Option Execution) (y : Id) (f : Option Fetching) → r ≡ Some run → run.phase ≡ Waits y f → pace_by r ≡ GoesOn → ⊥
  not_waiting run r y f e q p = rests_not (sym (ap pace_by e ∙ ap pace_in q) ∙ p)

  goes_on_kept : Kept GoesOnHere
  goes_on_kept = record {
    writes = λ h es p. p;
    says_plain = λ h w m _ p. p;
    says_plain_to_node = λ h k m _ p. p;
    objects = λ h x t p. ap pace_by t.tame.run ∙ p;
    bears_new = λ h a spec others ids p. p;
    comes_to_rest = λ h o task _ _ p. p;
    store = λ h s p. p;
    begins = λ h o task w m _ _ _ _ _ _ p. p;
    pushes_again = λ h k task w m _ _ p. p;
    asks_anew = λ h o old task _ _ p. p;
    asks_on = λ h o task t m k _ _ _ p. p;
    asks_again = λ h k task t m _ _ p. p;
    run = λ h run next e k p. k.pace ∙ sym (ap pace_by e) ∙ p;
    leaves = λ h run next e s _ _ _ p. absurd (stopped_not (sym (ap pace_by e ∙ stopped_pace run.phase s) ∙ p));
    gets = λ h run content y f e q p. absurd (not_waiting run h.worker.run y f e q p);
    faults = λ h run fault y f e q p. absurd (not_waiting run h.worker.run y f e q p);
    frees = λ h run y f e q p. absurd (not_waiting run h.worker.run y f e q p);
    tells_end = λ h run m rs _ _ p. p;
    tells_fault = λ h run f _ _ p. p;
    back = λ h run _ _ p. p;
    hears = λ h w a _ p. p;
    back_of = λ h m a _ _ p. p;
  }

  -- a worker that is wanted for no other attempt isn't, once its own has stopped
  pub record StopsHere (h : WorkerContext) : Type 0 where
    pub pace : pace_by h.worker.run ≡ HasStopped
    pub unwanted : (a : Attempt) → h.worker.is_live ≡ true → Gave (sent_here c me n old there h) n a me → has_begun a h.worker.began ≡ false → ⊥

  no_node : (v k : ℕ) → ◌≡◌ {A = Endpoint} (TheNode k) (TheWorker v) → ⊥
  no_node v k e = cc

  -- an envelope of a worker gives nobody
  says_stops : (h : WorkerContext) (to : Endpoint) (m : Message) → StopsHere h → StopsHere (record h { there = posts h.there (envelope (TheWorker h.me) to m) })
  says_stops h to m p = record {
    pace = p.pace;
    unwanted = λ a live gave unbegun. elim (envelope_cases c.network h.there.out.envelopes (envelope (TheWorker h.me) to m) _ gave.1) [
      | inl f ↦ p.unwanted a live (gave.0, f) unbegun
      | inr f ↦ no_node h.me n (ap (λ (l : Envelope). l.sender) f)
    ];
  }

  stopped_not_waiting : (run : Execution) (r : Option Execution) (y : Id) (f : Option Fetching) → r ≡ Some run → run.phase ≡ Waits y f → pace_by r ≡ HasStopped → ⊥
  stopped_not_waiting run r y f e q p = rests_not_stopped (sym (ap pace_by e ∙ ap pace_in q) ∙ p)

  stops_kept : Kept StopsHere
  stops_kept = record {
    writes = λ h es p. record { pace = p.pace; unwanted = p.unwanted };
    says_plain = λ h w m _ p. says_stops h (TheWorker w) m p;
    says_plain_to_node = λ h k m _ p. says_stops h (TheNode k) m p;
    objects = λ h x t p. record {
      pace = ap pace_by t.tame.run ∙ p.pace;
      unwanted = λ a live gave unbegun. p.unwanted a (sym t.tame.live ∙ live) gave (ap (has_begun a) (sym t.tame.began) ∙ unbegun);
    };
    bears_new = λ h a spec others ids p. record { pace = p.pace; unwanted = p.unwanted };
    comes_to_rest = λ h o task _ _ p. record { pace = p.pace; unwanted = p.unwanted };
    store = λ h s p. record { pace = p.pace; unwanted = p.unwanted };
    begins = λ h o task w m _ _ _ _ _ _ p. says_stops _ (TheWorker w) _ (record { pace = p.pace; unwanted = p.unwanted });
    pushes_again = λ h k task w m _ _ p. says_stops h (TheWorker w) _ p;
    asks_anew = λ h o old task _ _ p. says_stops _ (TheNode _) _ (record { pace = p.pace; unwanted = p.unwanted });
    asks_on = λ h o task t m k _ _ _ p. says_stops _ (TheNode _) _ (record { pace = p.pace; unwanted = p.unwanted });
    asks_again = λ h k task t m _ _ p. says_stops h (TheNode m) _ p;
    run = λ h run next e k p. record { pace = k.pace ∙ sym (ap pace_by e) ∙ p.pace; unwanted = p.unwanted };
    leaves = λ h run next e s _ phase _ p. record { pace = ap pace_in phase ∙ sym (ap pace_by e) ∙ p.pace; unwanted = p.unwanted };
    gets = λ h run content y f e q p. absurd (stopped_not_waiting run h.worker.run y f e q p.pace);
    faults = λ h run fault y f e q p. absurd (stopped_not_waiting run h.worker.run y f e q p.pace);
    frees = λ h run y f e q p. absurd (stopped_not_waiting run h.worker.run y f e q p.pace);
    tells_end = λ h run m rs _ _ p. says_stops h _ _ p;
    tells_fault = λ h run f _ _ p. says_stops h _ _ p;
    back = λ h run _ _ p. says_stops h _ _ p;
    hears = λ h w a _ p. says_stops h _ _ p;
    back_of = λ h m a _ _ p. says_stops h _ _ p;
  }

  -- an attempt that goes on isn't over
  going_on : (h : WorkerContext) (run : Execution) → h.worker.run ≡ Some run → GoesOnHere h → Here_does h → run.is_over ≡ false
  going_on h run e p d = false_from_ne_true run.is_over (λ o. stopped_not
      (sym (ap pace_by e ∙ stopped_pace run.phase ((mine c me n old there h d).stopped run e o)) ∙ p))

  ends_does : (h : WorkerContext) (run : Execution) (cs : List Outcome) → h.worker.run ≡ Some run → GoesOnHere h → Here_does h → Here_does (ends h run cs)
  ends_does h run cs e p d =
      let next : Execution = record run { phase = HasEnded cs } in
      let over : run.is_over ≡ false = going_on h run e p d in
      let g : WorkerContext = with_phase h run (HasEnded cs) in
      let ended : Here_does g = run_does c me n old there h run next e refl (λ o. o) (λ _. refl) (λ j o. absurd (ended_out cs j o)) d in
      let unwanted : IsUnwanted (look_here c me n old there g) (sent_here c me n old there g) n me = busy_unwanted c me n old there g next refl over ended in
      let stops : StopsHere g = record {
        pace = refl;
        unwanted = λ a live gave unbegun. unwanted a (record {
          worker = g.worker;
          there = at_me c me n old there g.worker g.there.opened;
          lives = live;
          given = gave;
          unbegun = unbegun;
        });
      } in
      let left : WorkerContext = leaves_if_free (keeps_contents g run.attempt.object run.attempt.number cs) in
      let left_does : Here_does left = both Here_does kept ended in
      let left_stops : StopsHere left = both StopsHere stops_kept stops in
      frees_does c me n old there left (still_unwanted left left_stops) left_does
    where
      both : (P : WorkerContext → Type 0) (k : Kept P) → P (with_phase h run (HasEnded cs)) →
          P (leaves_if_free (keeps_contents (with_phase h run (HasEnded cs)) run.attempt.object run.attempt.number cs))
      both P k p =
          leaves_if_free-kept (IsToldBy c me n old there) (IsOverOf c me n old there) (IsGivenBy c me n old there) AnyPassed P k _
          (keeps_contents-kept (IsToldBy c me n old there) (IsOverOf c me n old there) (IsGivenBy c me n old there) AnyPassed P k
          (with_phase h run (HasEnded cs)) run.attempt.object run.attempt.number cs p)

      still_unwanted : (g : WorkerContext) → StopsHere g → IsUnwanted (look_here c me n old there g) (sent_here c me n old there g) n me
      still_unwanted g s a wanted =
          let f : ◌≡◌ {A = Option Worker} (Some g.worker) (Some wanted.worker) = sym (at_me c me n old there g.worker g.there.opened) ∙ wanted.there in
          let is : g.worker ≡ wanted.worker = cc in
          s.unwanted a (ap (λ (z : Worker). z.is_live) is ∙ wanted.lives) wanted.given (ap (λ (z : Worker). has_begun a z.began) is ∙ wanted.unbegun)

  stops_does : (h : WorkerContext) (stop : Stopped) (r : Option Execution) → h.worker.run ≡ r → GoesOnHere h → Here_does h → Here_does (stops_by h stop r)
  stops_does h stop None e p d = d
  stops_does h (AtGet y) (Some run) e p d =
      needs-kept (IsToldBy c me n old there) (IsOverOf c me n old there) (IsGivenBy c me n old there) AnyPassed Here_does kept h run y
      (run_does c me n old there h run (record run { phase = Waits y None }) e refl (λ o. o)
      (λ o. absurd (both_ways run.is_over (going_on h run e p d) o)) (λ j o. absurd (waits_out y None j o)) d)
  stops_does h (AtEnd cs) (Some run) e p d = ends_does h run cs e p d

  pub commit_does : (h : WorkerContext) (o : Outcomes) (run : Execution) → h.worker.run ≡ Some run → run.is_over ≡ false → Here_does h → Here_does (commit_step h o)
  commit_does h o run e over d = subst (λ r. Here_does (commit_by h o r)) (sym e) by_run
    where
      by_run : Here_does (commit_by h o (Some run))
      by_run =
          let es : List Entry = commit_entries run.attempt (next_id_here h) o.births o.prints (stop_of o.stop) in
          let next : Execution = with_outcomes run o in
          let g : WorkerContext = logs_all (with_run h next) es in
          let started : Here_does g = logs_does c me n old there (with_run h next) es
          (run_does c me n old there h run next e refl (λ i. i) (λ i. absurd (both_ways run.is_over over i)) (λ j i. absurd (ready_out j i)) d) in
          let borne : WorkerContext = bears_all g run.attempt o.births in
          let borne_does : Here_does borne = bears_all-kept (IsToldBy c me n old there) (IsOverOf c me n old there)
          (IsGivenBy c me n old there) AnyPassed Here_does kept g run.attempt o.births started in
          let borne_goes : GoesOnHere borne = bears_all-kept (IsToldBy c me n old there) (IsOverOf c me n old there)
          (IsGivenBy c me n old there) AnyPassed GoesOnHere goes_on_kept g run.attempt o.births refl in
          stops_does borne o.stop borne.worker.run refl borne_goes borne_does
