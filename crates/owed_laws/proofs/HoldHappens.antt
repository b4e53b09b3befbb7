-- As long as nothing was killed or lost, each event keeps what is true of Pushes and Holds: the events, one by one.
use Rattle.std.proofs.Common.{[], ap, append-nil, length, List, None, Option, refl, Some, subst, suc, sym, zero, ℕ, ◌++◌, ◌+◌, ◌<◌, ◌∙◌, ◌∷◌, ◌≡◌}
use Rattle.std.specs.Prelude.{Bool, true, false, if◌then◌else◌, not, ◌&&◌}
use Rattle.std.specs.List.{filter}
use Rattle.std.proofs.lemmas.Bool.{both_ways}
use Rattle.meaning.proofs.BirthLaws.{at_test, same_id-refl}
use Rattle.meaning.specs.Births.{same_id}
use Rattle.meaning.specs.Values.{Birth, Id}
use Rattle.event_log.specs.Breaks.{Among}
use Rattle.event_log.specs.Entries.{Attempt, Deliver, Entry, Event, Faulted, In, main_attempt}
use Rattle.event_log.specs.Events.{accepted_events}
use Rattle.event_log.specs.Rules.{Setting}
use Rattle.event_log.specs.Words.{same_attempt, worker_of}
use Rattle.protocol.specs.Holders.{hold_ack_by, same_holding, without_holding}
use Rattle.protocol.specs.Jobs.{JobRecord}
use Rattle.protocol.specs.Messages.{Hold, Envelope, envelope, Message, Endpoint, Push, TheWorker}
use Rattle.protocol.specs.Nodes.{Node}
use Rattle.protocol.specs.Numbered.{item_at}
use Rattle.protocol.specs.Releases.{release_step}
use Rattle.protocol.specs.Runs.{gives_slot_back, is_heard, leaves, leaves_by, leaves_if_free, tells, with_answer}
use Rattle.protocol.specs.Sets.{is_empty}
use Rattle.protocol.specs.Steps.{WorkerContext, logs, with_phase, with_run}
use Rattle.protocol.specs.Tables.{HasFaulted, Holding, Execution, Waits, Worker, has_stopped, knows_dead, owner_of}
use Rattle.protocol.specs.Cluster.{Transition, ClusterState, after_worker, here, node_at, worker_at}
use Rattle.protocol_owed.specs.Courses.{has_begun}
use Rattle.protocol_owed.specs.Seen.{IsCalm}
use Rattle.protocol_owed.proofs.Envelopes.{among-nothing}
use Rattle.smallest_steps.proofs.Untouched.{tells_stop-worker}
use Rattle.owed_asks.specs.of_lease_discipline.Asks.{KeepsAsks}
use Rattle.owed_asks.specs.of_lease_discipline.Told.{IsInStep}
use Rattle.owed_replies.specs.Kept.{KeepsReplies}
use Rattle.owed_replies.proofs.Moves.{IsKept, release_step-kept}
use Rattle.owed_replies.proofs.Paying.{kept_among}
use Rattle.owed_laws.proofs.HoldEvents as E
use Rattle.owed_laws.proofs.HoldEvents.{HasEnd, IsBelow, IsPartOfTask, KeepsHolds, RunKeeps, below_more, push_by, run_later}
use Rattle.owed_laws.proofs.HoldMoves as H
use Rattle.owed_laws.proofs.HoldMoves.{IsHolder, RunHolds, ack_of, item_within}
use Rattle.owed_laws.proofs.Made.{runs_more}
use Rattle.owed_laws.proofs.Speaking.{Speaks, speaks_kept}

-- ---- a Hold that doesn't wait any more

module _ (j : Holding) where
  abbrev pub NotWaiting : WorkerContext → Type 0
  NotWaiting h = (run : Execution) → h.worker.run ≡ Some run → Among j run.holds → ⊥

  some_run : (x y : Execution) → ◌≡◌ {A = Option Execution} (Some x) (Some y) → x ≡ y
  some_run x y e = cc

  with_fewer : (h : WorkerContext) (run next : Execution) → h.worker.run ≡ Some run → (Among j next.holds → Among j run.holds) → NotWaiting h → NotWaiting (with_run h next)
  with_fewer h run next e less p x i there = p run e (less (subst (λ (y : Execution). Among j y.holds) (sym (some_run next x i)) there))

  leaves_waits : (h : WorkerContext) → NotWaiting h → NotWaiting (leaves_if_free h)
  leaves_waits h p = by_run h.worker.run refl
    where
      by_run : (r : Option Execution) → h.worker.run ≡ r → NotWaiting (leaves_by h r)
      by_run None e = p
      by_run (Some run) e =
          let over : Execution = record run { is_over = true } in
          let there : (tells h over).worker.run ≡ Some over = ap (λ (x : Worker). x.run) (tells_stop-worker (with_run h over) over over.phase) in
          let told : NotWaiting (tells h over) = λ x i a. p run e (subst (λ (y : Execution). Among j y.holds) (sym (some_run over x (sym there ∙ i))) a) in
          at_test (λ b. NotWaiting (if b then leaves h over else h)) (has_stopped run.phase && not run.is_over && is_empty run.holds)
          (λ _. at_test (λ b. NotWaiting (if b then with_run h (record over { is_acknowledged = true }) else if knows_dead h.worker (owner_of over) then is_heard (tells h over) over else tells h over))
          (same_attempt run.attempt main_attempt) (λ _. with_fewer h run (record over { is_acknowledged = true }) e (λ a. a) p)
          (λ _. at_test (λ b. NotWaiting (if b then is_heard (tells h over) over else tells h over)) (knows_dead h.worker (owner_of over))
          (λ _. with_fewer (tells h over) over (record over { is_acknowledged = true }) there (λ a. a) told) (λ _. told))) (λ _. p)

  pub waits_kept : IsKept NotWaiting
  waits_kept = record {
    writes = λ h es quiet p. p;
    says = λ h w m s p. p;
    says_to_node = λ h n m p. p;
    objects = λ h ys g p. p;
    passes = λ h ks p. p;
    deaths = λ h vs ns p. p;
    store = λ h s p. p;
    frees = λ h p. p;
    fetches = λ h run y f g e w p. with_fewer h run (record run { phase = Waits y g }) e (λ a. a) p;
    heard = λ h run e p. with_fewer h run (record run { is_acknowledged = true }) e (λ a. a) p;
    gets = λ h run c y f e w p. with_fewer h run (with_answer run c) e (λ a. a) p;
    faults = λ h run f y g e w p.
        leaves_waits (gives_slot_back (logs (with_phase h run (HasFaulted f)) (Faulted run.attempt y f))) (with_fewer h run (record run { phase = HasFaulted f }) e (λ a. a) p);
    acknowledged = λ h run test e p.
        leaves_waits (with_run h (record run { holds = filter test run.holds })) (with_fewer h run (record run { holds = filter test run.holds }) e (kept_among test run.holds j) p);
  }

  same_refl : same_holding j j ≡ true
  same_refl = ap (λ t. t && same_id j.object j.object) (same_id-refl j.holder) ∙ same_id-refl j.object

  not_without : (ks : List Holding) → Among j (without_holding ks j) → ⊥
  not_without [] a = among-nothing j a
  not_without (k ∷ ks) a =
      let rest : Among j (without_holding ks j) → ⊥ = not_without ks in
      at_test (λ t. same_holding k j ≡ t → Among j (if not t then k ∷ without_holding ks j else without_holding ks j) → ⊥) (same_holding k j)
      (λ _ _ i. rest i) (λ _ other i. kept rest other i) refl a
    where
      kept : (Among j (without_holding ks j) → ⊥) → same_holding k j ≡ false → Among j (k ∷ without_holding ks j) → ⊥
      kept rest other (zero, e) = let same : k ≡ j = cc in both_ways (same_holding k j) other (subst (λ i. same_holding i j ≡ true) (sym same) same_refl)
      kept rest other (suc i, e) = rest (i, e)

  pub acked_waits : (h : WorkerContext) → NotWaiting (hold_ack_by h j h.worker.run)
  acked_waits h = by_run h.worker.run refl
    where
      nobody : (x : Execution) → ◌≡◌ {A = Option Execution} None (Some x) → ⊥
      nobody x i = cc

      by_run : (r : Option Execution) → h.worker.run ≡ r → NotWaiting (hold_ack_by h j r)
      by_run None e = λ x i a. nobody x (sym e ∙ i)
      by_run (Some run) e =
          leaves_waits (with_run h (record run { holds = without_holding run.holds j }))
          (λ x i a. not_without run.holds (subst (λ (y : Execution). Among j y.holds) (sym (some_run (record run { holds = without_holding run.holds j }) x i)) a))

-- ---- an event

module _ (s : Setting) (log : List Entry) (c : ClusterState) (step : IsInStep s log c) (replies : KeepsReplies log c) (k : KeepsHolds log c) (seat : ℕ) where
  -- what is known after it
  pub record After (e : Event) (m : Transition) : Type 0 where
    pub after : IsInStep s (log ++ In e seat ∷ m.out.entries) m.whole
    pub asks : KeepsAsks m.whole
    pub calm : IsCalm (log ++ In e seat ∷ m.out.entries)
    pub accepted : accepted_events (log ++ In e seat ∷ m.out.entries) ≡ accepted_events log ++ e ∷ []
    pub network : m.whole.network ≡ c.network ++ m.out.envelopes
    pub sent : (n : ℕ) → e ≡ Deliver n → (l : Envelope) × (item_at c.network n ≡ Some l)

  abbrev pub Goes : (e : Event) (m : Transition) → After e m → Type 0
  Goes e m a = E.Goes s log c step replies k e seat m a.after a.asks a.calm a.accepted a.network a.sent

  pub known : (n : ℕ) → Among (Deliver n) (accepted_events log) → n < length c.network + 1
  known n i = let u = replies.delivered n i in item_within c.network n u.0 u.1

  -- ---- of a worker that goes on with its attempt

  module _ (e : Event) (jobs : List JobRecord) (made : ℕ) (delivered : List Bool) (me : ℕ) (x : Worker) (at : worker_at c me ≡ Some x) (live : x.is_live ≡ true)
      (node : Node) (home : node_at c x.node ≡ Some node) (g : WorkerContext) where
    abbrev pub base : ClusterState
    base = record c { jobs = jobs; made = made; delivered = delivered }

    abbrev pub start : WorkerContext
    start = here base me x node

    abbrev pub last : WorkerContext
    last = release_step g

    abbrev pub done : Transition
    done = after_worker base me x.node last

    abbrev pub logged : List Entry
    logged = log ++ In e seat ∷ last.there.out.entries

    abbrev pub HoldsAs : ℕ → Attempt → ℕ → Type 0 → WorkerContext → Type 0
    HoldsAs p a low Present h = H.Holds logged c.network (accepted_events log) known me p x.began a low Present h

    abbrev pub RunsAs : (r : Execution) → x.run ≡ Some r → WorkerContext → Type 0
    RunsAs r is h = HoldsAs (k.runs me x r at is).place r.attempt r.base.serial (Unit {0}) h

    abbrev pub IdlesAs : WorkerContext → Type 0
    IdlesAs h = HoldsAs 0 main_attempt 0 ⊥ h

    pub start_runs : (r : Execution) (is : x.run ≡ Some r) → RunsAs r is start
    start_runs r is =
        let old : RunKeeps log c.network (accepted_events log) me x r = k.runs me x r at is in
        let now : RunHolds logged c.network (accepted_events log) me old.place r =
        run_later log (In e seat ∷ last.there.out.entries) c.network (accepted_events log) me old.place r old.holds in
        record {
          who = refl;
          kept_began = refl;
          same = λ run i. let same : r ≡ run = same_run r run (sym is ∙ i) in (ap (λ (z : Execution). z.attempt) (sym same), ap (λ (z : Execution). z.base.serial) (sym same), tt);
          run = λ run i. subst (RunHolds logged (c.network ++ []) (accepted_events log) me old.place) (same_run r run (sym is ∙ i))
              (subst (λ ls. RunHolds logged ls (accepted_events log) me old.place r) (sym (append-nil c.network)) now);
          said = λ v f o i. absurd (among-nothing _ i);
        }
      where
        same_run : (y z : Execution) → ◌≡◌ {A = Option Execution} (Some y) (Some z) → y ≡ z
        same_run y z i = cc

    pub start_idles : x.run ≡ None → IdlesAs start
    start_idles is = record {
      who = refl;
      kept_began = refl;
      same = λ run i. absurd (nobody run (sym is ∙ i));
      run = λ run i. absurd (nobody run (sym is ∙ i));
      said = λ v f o i. absurd (among-nothing _ i);
    }
      where
        nobody : (run : Execution) → ◌≡◌ {A = Option Execution} None (Some run) → ⊥
        nobody run i = cc

    pub start_speaks : (holds pushes : Type 0) → Speaks holds pushes me start
    start_speaks holds pushes = record { who = refl; said = λ v l i. absurd (among-nothing _ i); own = λ w l i f. absurd (among-nothing l i) }

    module _ (a : After e done) (to_me : (n w : ℕ) (from : Endpoint) (l : Message) → e ≡ Deliver n → item_at c.network n ≡ Some (envelope from (TheWorker w) l) → w ≡ me)
        (holds : (r : Execution) (is : x.run ≡ Some r) → RunsAs r is g) (idles : x.run ≡ None → IdlesAs g)
        (unheard : (run : Execution) → last.worker.run ≡ Some run → (j : Holding) → Among j run.holds → (n : ℕ) → e ≡ Deliver n → item_at c.network n ≡ Some (ack_of me j) → ⊥)
        (speaks : Speaks (Unit {0}) (Unit {0}) me g)
        (free_says_none : (u v : ℕ) (b : Attempt) (spec : Birth) (f o : Id) → IsPartOfTask b spec f → Among (envelope (TheWorker me) (TheWorker v) (Hold f o)) last.there.out.envelopes →
        Among (push_by u me b spec) done.whole.network → has_begun b last.worker.began ≡ false → ⊥) where
      runs_last : (r : Execution) (is : x.run ≡ Some r) → RunsAs r is last
      runs_last r is = release_step-kept (RunsAs r is) (H.holds_kept logged c.network (accepted_events log) known me (k.runs me x r at is).place x.began r.attempt
          r.base.serial (Unit {0})) g (holds r is)

      idles_last : x.run ≡ None → IdlesAs last
      idles_last is = release_step-kept IdlesAs (H.holds_kept logged c.network (accepted_events log) known me 0 x.began main_attempt 0 ⊥) g (idles is)

      speaks_last : Speaks (Unit {0}) (Unit {0}) me last
      speaks_last = release_step-kept (Speaks (Unit {0}) (Unit {0}) me) (speaks_kept (Unit {0}) (Unit {0}) me) g speaks

      my_run : (run : Execution) → last.worker.run ≡ Some run → (o : Option Execution) → x.run ≡ o → RunKeeps logged done.whole.network (accepted_events logged) me last.worker run
      my_run run i None is = absurd (((idles_last is).same run i).2)
      my_run run i (Some r) is =
          let q : RunsAs r is last = runs_last r is in
          let old : RunKeeps log c.network (accepted_events log) me x r = k.runs me x r at is in
          let same = q.same run i in
          E.keeps_on s log c step replies k e seat done a.after a.asks a.calm a.accepted a.network a.sent me last.worker run old.place old.within
          (λ other. subst (λ (d : Attempt). (spec : Birth) × (item_at c.network old.place ≡ Some (push_by d.object.owner me d spec)) × ((n : ℕ) (f : Birth) → n < old.place →
          item_at c.network n ≡ Some (push_by d.object.owner me d f) → ⊥)) (sym same.0) (old.pushed (subst (λ d. same_attempt d main_attempt ≡ false) same.0 other)))
          (q.run run i) (unheard run i)
          (λ d begun own. subst (IsBelow logged d) (sym same.1)
          (below_more log (In e seat ∷ last.there.out.entries) d r.base.serial (old.apart d (ap (λ bs. has_begun d bs) (sym q.kept_began) ∙ begun) own)))

      my_says : (u v : ℕ) (b : Attempt) (spec : Birth) (f o : Id) → IsPartOfTask b spec f → Among (envelope (TheWorker me) (TheWorker v) (Hold f o)) last.there.out.envelopes →
          Among (push_by u me b spec) done.whole.network → (r : Option Execution) → x.run ≡ r → HasEnd logged b
      my_says u v b spec f o part i pushed None is = absurd (((idles_last is).said v f o i).1)
      my_says u v b spec f o part i pushed (Some r) is =
          let q : RunsAs r is last = runs_last r is in
          let ran : worker_of r.attempt logged ≡ Some me = runs_more log e seat last.there.out.entries r.attempt me
          ((step.sound.between.knows.workers me x at live).run r is).runs in
          E.said_in_time s log c step replies k e seat done a.after a.asks a.calm a.accepted a.network a.sent u me x last.worker r b spec f part at is ran q.kept_began pushed
          (q.said v f o i).0 (free_says_none u v b spec f o part i pushed)

      pub goes_on : Goes e done a
      goes_on = E.worker_goes s log c step replies k e seat done a.after a.asks a.calm a.accepted a.network a.sent me x at x.node last refl refl to_me (record {
        runs = λ run i. my_run run i x.run refl;
        own = speaks_last.own;
        pushes = λ w b spec i. (speaks_last.said w (Push b spec) i).0;
        says = λ u v b spec f o part i pushed. my_says u v b spec f o part i pushed x.run refl;
      })
