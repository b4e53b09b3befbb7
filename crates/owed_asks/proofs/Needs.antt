-- A copy that is waited for is got, and another worker's object is asked for as soon as an attempt waits for it.
use Rattle.std.proofs.Common.{◌≡◌, ◌≢◌, ℕ, zero, suc, List, map, Some, None, Option, refl, ap, sym, subst, ◌∙◌}
use Rattle.std.specs.Prelude.{true, false, if◌then◌else◌, not, ◌&&◌, ◌==◌}
use Rattle.std.proofs.lemmas.Bool.Decides.{nat_tests}
use Rattle.std.proofs.Common.{arith}
use Rattle.sequence.proofs.Places.{and_left, and_right}
use Rattle.meaning.proofs.BirthLaws.{at_test}
use Rattle.meaning.specs.Values.{Id, Outcome}
use Rattle.event_log.specs.Commits.{commit_entries}
use Rattle.event_log.specs.Entries.{Attempt, Commit, Deliver, Entry, Event, Faulted, Got, OwnerDied}
use Rattle.event_log.specs.Entries.{Refusal, NoJob, Stale}
use Rattle.event_log.specs.Events.{from_one}
use Rattle.event_log.specs.Breaks.{Among}
use Rattle.protocol.specs.Numbered.{changed_at, item_at}
use Rattle.protocol.specs.Sets.{fault, repeated}
use Rattle.protocol.specs.Messages.{CopyOf, TheNode, TheWorker, Where}
use Rattle.protocol.specs.Jobs.{AtEnd, AtGet, JobRecord, CommitInput, Nothing, OfAnother, OfJob, Outcomes, Stopped, stop_of}
use Rattle.protocol.specs.Nodes.{Node, Outbox}
use Rattle.protocol.specs.Tables.{Fetching, HasEnded, HasFaulted, Execution, Waits, Worker, is_waiting_for, knows_dead, new_worker}
use Rattle.protocol.specs.Tables.{needed_by, object_needed}
use Rattle.protocol.specs.Steps.{WorkerContext, is_own, logs, logs_all, says, with_phase, with_run}
use Rattle.protocol.specs.Runs.{faults, gives_slot_back, leaves_if_free}
use Rattle.protocol.specs.Commits.{keeps_contents, asks_where, bears_all, commit_by, commit_step, ends, needs, next_id_here, rests_if_waiting, stops_by, with_outcomes}
use Rattle.protocol.specs.Releases.{release_step}
use Rattle.protocol.specs.Deliveries.{reached}
use Rattle.protocol.specs.Cluster.{ClusterState, after_worker, here, node_at, worker_at, worker_does_at, worker_does_by}
use Rattle.protocol.specs.Events.{committed_by, happens, is_live_worker, with_committed, objects_made}
use Rattle.protocol.specs.Answers.{Step, Takes, decided}
use Rattle.protocol.specs.Locations.{needs_own}
use Rattle.protocol.specs.Refusals.{commit_refusal, is_of_job, is_out_by, refusal, unless}
use Rattle.protocol_owed.specs.Courses.{GoesOn, HasStopped, Pace, Rests}
use Rattle.protocol_owed.specs.Runs.{Running, after_event, after_events, opening_run}
use Rattle.protocol_owed.specs.Seen.{Sends}
use Rattle.protocol_owed.proofs.CourseAll.{both_passed, passed}
use Rattle.protocol_owed.proofs.Moves as M
use Rattle.protocol_owed.proofs.Nodes.{there_more}
use Rattle.protocol_owed.proofs.Owing.{foreign_need_is_asked}
use Rattle.protocol_owed.proofs.Replying.{copy_is_got, me_stays, sent_after}
use Rattle.protocol_owed.specs.Told.{pace_by, pace_in}
use Rattle.protocol_owed.proofs.CourseRuns.{OutOf, out_of}
use Rattle.protocol_owed.proofs.TellingMore.{stopped_not}
use Rattle.smallest_steps.proofs.Smallest.{AnyOver, AnyPassed, AnyTold}
use Rattle.lease_discipline.proofs.Heres.{changed_now}
use Rattle.lease_discipline.proofs.Moves.{IsKept, bears_all-kept, keeps_contents-kept, leaves_if_free-kept, release_step-kept}
use Rattle.lease_discipline.proofs.Tame.{item_mapped}
use Rattle.lease_discipline.proofs.TurnEvents.{GivenBy}
use Rattle.owed_asks.specs.Law.{CopiesAreGot, NewForeignWaitsAreAsked}
use Rattle.owed_asks.proofs.Laws.{IsTaken, RunKeeps, delivery, is_taken, last_whole, next_keeps, runs_keep}
use Rattle.owed_asks.proofs.WaitsTell.{IsWaitingHere, waits_for}
use Rattle.owed_asks.proofs.Waiting.{WaitsOnly, asks_where-waits, release_step-waits}

pub copies_are_got : CopiesAreGot
copies_are_got s slots some slot apart gs right g step is taken calm = λ n w a y number content brings waits.
    let r : Running = after_events (opening_run s.nodes slots) gs in
    let c : ClusterState = r.whole in
    let keeps : RunKeeps s r = runs_keep s slots some slot apart gs right in
    let k : IsTaken c g.event g.handed step = is_taken c g.event g.handed step taken in
    let x : IsWaitingHere c w a y = waits_for s r keeps.step w a y waits in
    let node = keeps.step.leases.homes w x.worker x.there in
    let h : WorkerContext = here c w x.worker node.0 in
    let got = copy_is_got h n y number content x.run x.at (ap object_needed x.waits) in
    let out = delivery c brings.0 w (TheNode n) (CopyOf y number content) x.worker node.0 brings.2 x.there x.lives node.1 g.handed in
    let same : step.entries ≡ (happens c (Deliver brings.0) g.handed).out.entries =
    k.entries ∙ ap (λ e. (happens c e g.handed).out.entries) brings.1 in
    subst (λ es. Among (Got a y content) es) (sym (same ∙ ap (λ (o : Outbox). o.entries) out))
    (subst (λ i. Among (Got i y content) (release_step (reached h (TheNode n) (CopyOf y number content))).there.out.entries) x.present got)

-- ---- how far an attempt is

module _ (T : ℕ → Attempt → Type 0) (O : Attempt → Type 0) (V : ℕ → ℕ → Attempt → ℕ → Type 0) (p : Pace) (going : p ≡ Rests → ⊥) where
  abbrev PaceIs : WorkerContext → Type 0
  PaceIs h = pace_by h.worker.run ≡ p

  waits_no : (h : WorkerContext) (run : Execution) (y : Id) (f : Option Fetching) → h.worker.run ≡ Some run → run.phase ≡ Waits y f → PaceIs h → ⊥
  waits_no h run y f e q u = going (sym u ∙ ap pace_by e ∙ ap pace_in q)

  -- one that doesn't wait is as far as it was
  pace_kept : IsKept T O V AnyPassed PaceIs
  pace_kept = record {
    writes = λ h es u. u;
    says_plain = λ h w m _ u. u;
    says_plain_to_node = λ h i m _ u. u;
    objects = λ h x t u. ap pace_by t.tame.run ∙ u;
    store = λ h s u. u;
    begins = λ h o task w m _ _ _ _ _ _ u. u;
    bears_new = λ h a spec others ids u. u;
    comes_to_rest = λ h o task _ _ u. u;
    pushes_again = λ h i task w m _ _ u. u;
    asks_anew = λ h o before task _ _ u. u;
    asks_on = λ h o task t m i _ _ _ u. u;
    asks_again = λ h i task t m _ _ u. u;
    run = λ h run next e i u. i.pace ∙ ap pace_by (sym e) ∙ u;
    leaves = λ h run next e _ _ phase _ u. ap pace_in phase ∙ ap pace_by (sym e) ∙ u;
    gets = λ h run content y f e q u. absurd (waits_no h run y f e q u);
    faults = λ h run fault y f e q u. absurd (waits_no h run y f e q u);
    frees = λ h run y f e q u. absurd (waits_no h run y f e q u);
    tells_end = λ h run m rs _ _ u. u;
    tells_fault = λ h run f _ _ u. u;
    back = λ h run _ _ u. u;
    hears = λ h w a _ u. u;
    back_of = λ h m a _ _ u. u;
  }

goes_rests : GoesOn ≡ Rests → ⊥
goes_rests e = absurd (cc)

stopped_rests : HasStopped ≡ Rests → ⊥
stopped_rests e = absurd (cc)

abbrev HasStoppedHere : WorkerContext → Type 0
HasStoppedHere h = pace_by h.worker.run ≡ HasStopped

stopped_kept : IsKept AnyTold AnyOver GivenBy AnyPassed HasStoppedHere
stopped_kept = pace_kept AnyTold AnyOver GivenBy HasStopped stopped_rests

-- ---- a commit of worker h

other_owner : (m n : ℕ) → m ≢ n → (m == n) ≡ false
other_owner m n apart = at_test (λ b. (m == n) ≡ b → (m == n) ≡ false) (m == n) (λ _ e. absurd (apart (same m n e))) (λ _ e. e) refl
  where
    same : (m n : ℕ) → (m == n) ≡ true → m ≡ n
    same m n e = grind (arith, nat_tests)

-- where it waits for another worker's object at the end, it has asked for that
abbrev AsksOwner : ℕ → WorkerContext → Type 0
AsksOwner me g =
    (last : Execution) (y : Id) (f : Option Fetching) → g.worker.run ≡ Some last → last.phase ≡ Waits y f → y.owner ≢ me →
    Sends g.there.out.envelopes (TheWorker me) (TheWorker y.owner) (Where y)

stopped_asks : (me : ℕ) (g : WorkerContext) → HasStoppedHere g → AsksOwner me g
stopped_asks me g stopped last y f at waits apart = absurd (stopped_rests (sym stopped ∙ ap pace_by at ∙ ap pace_in waits))

stopped_by_death : (b : WorkerContext) (run : Execution) (z : Id) → HasStoppedHere (faults (with_phase b run (Waits z None)) (fault OwnerDied z))
stopped_by_death b run z =
    let h : WorkerContext = with_phase b run (Waits z None) in
    let waiting : Execution = record run { phase = Waits z None } in
    let g : WorkerContext = gives_slot_back (logs (with_phase h waiting (HasFaulted (fault OwnerDied z))) (Faulted run.attempt z (fault OwnerDied z))) in
    leaves_if_free-kept AnyTold AnyOver GivenBy AnyPassed HasStoppedHere stopped_kept g refl

needs_asks : (b : WorkerContext) (run : Execution) (z : Id) → AsksOwner b.me (release_step (needs b run z))
needs_asks b run z last y f at waits apart =
    let h : WorkerContext = with_phase b run (Waits z None) in
    let g : WorkerContext = asks_where h z in
    let only : WaitsOnly z g = asks_where-waits z h (λ i e. same_needed z i e) in
    let rests : WaitsOnly z (rests_if_waiting g z) =
    at_test (λ t. WaitsOnly z (if t then gives_slot_back g else g)) (is_waiting_for g.worker z) (λ _. only) (λ _. only) in
    let end : WaitsOnly z (release_step (needs b run z)) = release_step-waits z (needs b run z) rests in
    let is : y ≡ z = end y (ap needed_by at ∙ ap object_needed waits) in
    let foreign : is_own b z ≡ false = other_owner z.owner b.me (λ e. apart (ap (λ (i : Id). i.owner) is ∙ e)) in
    at_test (λ t. knows_dead b.worker z.owner ≡ t → Sends (release_step (needs b run z)).there.out.envelopes (TheWorker b.me) (TheWorker y.owner) (Where y))
    (knows_dead b.worker z.owner)
    (λ _ e. stopped_asks b.me (release_step (needs b run z)) (dead foreign e) last y f at waits apart)
    (λ _ e. subst (λ i. Sends (release_step (needs b run z)).there.out.envelopes (TheWorker b.me) (TheWorker i.owner) (Where i)) (sym is)
    (sent_after _ (needs b run z) (foreign_need_is_asked b run z foreign e))) refl
  where
    same_needed : (z i : Id) → ◌≡◌ {A = Option Id} (Some z) (Some i) → i ≡ z
    same_needed z i e = cc

    dead : is_own b z ≡ false → knows_dead b.worker z.owner ≡ true → HasStoppedHere (release_step (needs b run z))
    dead foreign e =
        let h : WorkerContext = with_phase b run (Waits z None) in
        let asked : HasStoppedHere (asks_where h z) =
        subst (λ t. HasStoppedHere (if t then needs_own h z else if knows_dead b.worker z.owner then faults h (fault OwnerDied z) else says h z.owner
        (Where z))) (sym foreign)
        (subst (λ t. HasStoppedHere (if t then faults h (fault OwnerDied z) else says h z.owner (Where z))) (sym e) (stopped_by_death b run z)) in
        let rested : HasStoppedHere (needs b run z) =
        at_test (λ t. HasStoppedHere (if t then gives_slot_back (asks_where h z) else asks_where h z)) (is_waiting_for (asks_where h z).worker z)
        (λ _. asked) (λ _. asked) in
        release_step-kept AnyTold AnyOver GivenBy AnyPassed HasStoppedHere stopped_kept (needs b run z) rested

ends_asks : (b : WorkerContext) (run : Execution) (cs : List Outcome) → AsksOwner b.me (release_step (ends b run cs))
ends_asks b run cs =
    let g : WorkerContext = with_phase b run (HasEnded cs) in
    let held : HasStoppedHere (leaves_if_free (keeps_contents g run.attempt.object run.attempt.number cs)) =
    leaves_if_free-kept AnyTold AnyOver GivenBy AnyPassed HasStoppedHere stopped_kept (keeps_contents g run.attempt.object run.attempt.number cs)
    (keeps_contents-kept AnyTold AnyOver GivenBy AnyPassed HasStoppedHere stopped_kept g run.attempt.object run.attempt.number cs refl) in
    stopped_asks b.me (release_step (ends b run cs)) (release_step-kept AnyTold AnyOver GivenBy AnyPassed HasStoppedHere stopped_kept (ends b run cs) held)

stops_ask : (b : WorkerContext) (stop : Stopped) (r : Option Execution) → pace_by r ≡ GoesOn → AsksOwner b.me (release_step (stops_by b stop r))
stops_ask b stop None e = absurd (stopped_not e)
stops_ask b (AtGet z) (Some run) e = needs_asks b run z
stops_ask b (AtEnd cs) (Some run) e = ends_asks b run cs

commit_asks : (h : WorkerContext) (o : Outcomes) (run : Execution) → h.worker.run ≡ Some run → AsksOwner h.me (release_step (commit_step h o))
commit_asks h o run e = subst (λ r. AsksOwner h.me (release_step (commit_by h o r))) (sym e) by_run
  where
    by_run : AsksOwner h.me (release_step (commit_by h o (Some run)))
    by_run =
        let es : List Entry = commit_entries run.attempt (next_id_here h) o.births o.prints (stop_of o.stop) in
        let g : WorkerContext = logs_all (with_run h (with_outcomes run o)) es in
        let borne : WorkerContext = bears_all g run.attempt o.births in
        let goes : pace_by borne.worker.run ≡ GoesOn =
        bears_all-kept AnyTold AnyOver GivenBy AnyPassed (λ z. pace_by z.worker.run ≡ GoesOn)
        (pace_kept AnyTold AnyOver GivenBy GoesOn goes_rests) g run.attempt o.births refl in
        let me : borne.me ≡ h.me = M.bears_all-kept (λ z. z.me ≡ h.me) (me_stays h.me) g run.attempt o.births refl in
        subst (λ m. AsksOwner m (release_step (stops_by borne o.stop borne.worker.run))) me (stops_ask borne o.stop borne.worker.run goes)

-- ---- the commit of a job

from_mapped : (f : JobRecord → ℕ) (xs : List JobRecord) (k w : ℕ) → from_one (map f xs) k ≡ Some w → (x : JobRecord) × (item_at xs k ≡ Some x) × (w ≡ f x)
from_mapped f xs zero w e = absurd (cc)
from_mapped f xs (suc i) w e = item_mapped f xs (suc i) w e

some_worker : (o : Option Worker) → is_live_worker o ≡ true → (x : Worker) × (o ≡ Some x) × (x.is_live ≡ true)
some_worker None e = absurd (cc)
some_worker (Some x) e = (x, refl, e)

some_job : (handed : CommitInput) → is_of_job handed ≡ true → (d : Outcomes) × (handed ≡ OfJob d)
some_job Nothing e = absurd (cc)
some_job OfAnother e = absurd (cc)
some_job (OfJob d) e = (d, refl)

unrefused_so : (c : ClusterState) (e : Event) (handed : CommitInput) (step : Step) (code : Option Refusal) → decided c e handed code ≡ Takes step → code ≡ None
unrefused_so c e handed step None f = refl
unrefused_so c e handed step (Some code) f = absurd (cc)

module _ (c : ClusterState) (j w : ℕ) (handed : CommitInput) (g : JobRecord) (at : item_at c.jobs j ≡ Some g) (worker_is : g.worker ≡ w) (taken : refusal c
    (Commit j) handed ≡ None)
    (homes : (v : ℕ) (x : Worker) → worker_at c v ≡ Some x → (node : Node) × (node_at c x.node ≡ Some node)) where
  open_so : commit_refusal c j handed (Some g) ≡ None
  open_so = ap (commit_refusal c j handed) (sym at) ∙ taken

  two : (unless (not g.is_committed && is_of_job handed && is_out_by (worker_at c g.worker) j) NoJob ≡ None) ×
      (unless (is_live_worker (worker_at c g.worker)) Stale ≡ None)
  two = both_passed (unless (not g.is_committed && is_of_job handed && is_out_by (worker_at c g.worker) j) NoJob) (unless (is_live_worker
      (worker_at c g.worker)) Stale) open_so

  open_job : (not g.is_committed && is_of_job handed && is_out_by (worker_at c g.worker) j) ≡ true
  open_job = passed (not g.is_committed && is_of_job handed && is_out_by (worker_at c g.worker) j) NoJob two.0

  done : (d : Outcomes) × (handed ≡ OfJob d)
  done = some_job handed (and_right (not g.is_committed) (is_of_job handed) (and_left (not g.is_committed && is_of_job handed) (is_out_by
      (worker_at c g.worker) j) open_job))

  who : (x : Worker) × (worker_at c g.worker ≡ Some x) × (x.is_live ≡ true)
  who = some_worker (worker_at c g.worker) (passed (is_live_worker (worker_at c g.worker)) Stale two.1)

  commit_of_job : (y : Id) (f : Option Fetching) (x : Worker) (last : Execution) → worker_at (happens c (Commit j) handed).whole w ≡ Some x → x.run ≡ Some last →
      last.phase ≡ Waits y f → y.owner ≢ w → Sends (happens c (Commit j) handed).out.envelopes (TheWorker w) (TheWorker y.owner) (Where y)
  commit_of_job y f x last there run waits apart =
      subst (λ v. Sends (happens c (Commit j) handed).out.envelopes (TheWorker v) (TheWorker y.owner) (Where y)) worker_is
      (subst (λ m. Sends m.out.envelopes (TheWorker g.worker) (TheWorker y.owner) (Where y)) (sym made)
      (commit_asks start done.0 out.run out.at last y f (ap (λ (z : Worker). z.run) same ∙ run) waits (λ e. apart (e ∙ worker_is))))
    where
      d : ClusterState
      d = with_committed c j (objects_made done.0.births)

      node : (node : Node) × (node_at c who.0.node ≡ Some node)
      node = homes g.worker who.0 who.1

      start : WorkerContext
      start = here d g.worker who.0 node.0

      out : OutOf who.0.run j
      out = out_of who.0.run j (ap (λ o. is_out_by o j) (sym who.1) ∙
          and_right (not g.is_committed && is_of_job handed) (is_out_by (worker_at c g.worker) j) open_job)

      made : happens c (Commit j) handed ≡ after_worker d g.worker who.0.node (release_step (commit_step start done.0))
      made =
          ap (λ o. committed_by c j handed o) at ∙ ap (λ o. committed_by c j o (Some g)) done.1 ∙
          ap (λ o. worker_does_by d g.worker (λ h. commit_step h done.0) o) who.1 ∙
          ap (λ o. worker_does_at d g.worker who.0 (λ h. commit_step h done.0) o) node.1

      same_worker : (u v : Worker) → ◌≡◌ {A = Option Worker} (Some u) (Some v) → u ≡ v
      same_worker u v e = cc

      same : (release_step (commit_step start done.0)).worker ≡ x
      same = same_worker (release_step (commit_step start done.0)).worker x
          (sym (there_more (changed_at c.workers g.worker (λ _. (release_step (commit_step start done.0)).worker))
          (repeated (release_step (commit_step start done.0)).there.opened (new_worker who.0.node)) g.worker (release_step (commit_step start done.0)).worker
          (changed_now c.workers g.worker who.0 (release_step (commit_step start done.0)).worker who.1)) ∙
          ap (λ m. worker_at m.whole g.worker) (sym made) ∙ ap (worker_at (happens c (Commit j) handed).whole) worker_is ∙ there)

pub new_foreign_waits_are_asked : NewForeignWaitsAreAsked
new_foreign_waits_are_asked s slots some slot apart gs right g step is taken calm = λ w a y new foreign.
    let r : Running = after_events (opening_run s.nodes slots) gs in
    let c : ClusterState = r.whole in
    let keeps : RunKeeps s r = runs_keep s slots some slot apart gs right in
    let next : RunKeeps s (after_event r g) = next_keeps s slots some slot apart gs right g is in
    let k : IsTaken c g.event g.handed step = is_taken c g.event g.handed step taken in
    let x : IsWaitingHere (after_event r g).whole w a y = waits_for s (after_event r g) next.step w a y new.waits in
    let job = from_mapped (λ (i : JobRecord). i.worker) c.jobs new.job w (ap (λ ws. from_one ws new.job) (sym keeps.step.sound.between.knows.claims) ∙ new.own) in
    let whole : (after_event r g).whole ≡ (happens c (Commit new.job) g.handed).whole =
    last_whole r g step taken ∙ k.whole ∙ ap (λ e. (happens c e g.handed).whole) new.commit in
    let unrefused : refusal c (Commit new.job) g.handed ≡ None =
    ap (λ e. refusal c e g.handed) (sym new.commit) ∙ unrefused_so c g.event g.handed step (refusal c g.event g.handed) taken in
    subst (λ ls. Sends ls (TheWorker w) (TheWorker y.owner) (Where y)) (ap (λ e. (happens c e g.handed).out.envelopes) (sym new.commit) ∙ sym k.envelopes)
    (commit_of_job c new.job w g.handed job.0 job.1 (sym job.2) unrefused keeps.step.leases.homes y x.fetching x.worker x.run
    (ap (λ d. worker_at d w) (sym whole) ∙ x.there) x.at x.waits foreign)
