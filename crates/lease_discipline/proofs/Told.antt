-- A sound run whose leases are in order is disciplined, so its log tells of each worker what its tables say.
use Rattle.std.proofs.Common.{◌≡◌, ◌≢◌, ℕ, zero, suc, List, [], ◌∷◌, ◌++◌, map, Some, None, Option, refl, ap, sym, subst, ◌∙◌, inl}
use Rattle.std.proofs.Common.{inr, append-nil, arith}
use Rattle.std.specs.Prelude.{true, false, if◌then◌else◌, not, slice_get, ◌==◌}
use Rattle.std.proofs.lemmas.Bool.Decides.{nat_tests}
use Rattle.meaning.proofs.BirthLaws.{at_test}
use Rattle.std.specs.List.{AllByRecursion, list_any}
use Rattle.std.proofs.lemmas.Bool.{both_ways, false_from_ne_true}
use Rattle.meaning.specs.Values.{Birth}
use Rattle.event_log.specs.Entries.{Attempt, Claim, Entry, main_attempt}
use Rattle.event_log.specs.Events.{accepted_events, from_one, is_live, kills, node_of, on_node}
use Rattle.event_log.specs.Legal.{opening}
use Rattle.event_log.specs.Rules.{Setting}
use Rattle.event_log.specs.Words.{worker_of}
use Rattle.event_log.proofs.WordLaws.{same_attempt-true}
use Rattle.event_log.proofs.SaneLaws.{legal_logs_are_sane}
use Rattle.event_log.specs.Breaks.{Among}
use Rattle.protocol_laws.specs.of_protocol.Answers.{Answer, Refuses, Takes, answer, logged, whole_after}
use Rattle.protocol_laws.specs.of_protocol.Jobs.{JobRecord}
use Rattle.protocol_laws.specs.of_protocol.Messages.{Envelope, Endpoint, Push, TheWorker, envelope}
use Rattle.protocol_laws.specs.of_protocol.Numbered.{item_at}
use Rattle.protocol_laws.specs.of_protocol.Tables.{Out, Phase, Ready, Waits, HasEnded, HasFaulted, Execution, Worker}
use Rattle.protocol_laws.specs.of_protocol.Cluster.{ClusterState, driver, first_whole, worker_at}
use Rattle.protocol_laws.specs.of_protocol_legal.Past.{past}
use Rattle.protocol_laws.specs.of_protocol_legal.Says.{IsPushed, Says}
use Rattle.protocol_laws.specs.of_protocol_legal.Whole.{Between, setting_of}
use Rattle.protocol_laws.specs.Sound.{IsSound}
use Rattle.protocol_laws.proofs.Laws.{event_keeps_sound, opening_is_sound}
use Rattle.protocol_laws.specs.of_protocol_owed.Courses.{Course, GoesOn, HasStopped, IsOut, course, course_from, has_begun, is_attempt, opening_course}
use Rattle.protocol_laws.specs.of_protocol_owed.Runs.{seen}
use Rattle.protocol_laws.specs.of_protocol_owed.Turns.{ClaimIsAnswered}
use Rattle.protocol_laws.proofs.of_protocol_owed.Claims as C
use Rattle.protocol_laws.proofs.of_protocol_owed.CourseEvents.{HoldsAt}
use Rattle.protocol_laws.proofs.of_protocol_owed.CourseRuns.{IsDisciplined}
use Rattle.protocol_laws.proofs.of_protocol_owed.Tellings.{AllTold, event_told}
use Rattle.protocol_laws.specs.of_protocol_owed.Told.{pace_in, IsAsTold, pace_by, attempt_by}
use Rattle.lease_discipline.specs.Discipline as D
use Rattle.lease_discipline.specs.Discipline.{IsOfNode, KeepsLeases}
use Rattle.lease_discipline.specs.Told.{IsInStep, IsToldOf, TellsCourses, entries_of}
use Rattle.lease_discipline.specs.Owing.{AttemptsRunOnce, ClaimsAreAnswered, EventsStayInStep, LogsTell, OpeningIsInStep, running}
use Rattle.lease_discipline.proofs.Events.{among_at, events_keep}
use Rattle.lease_discipline.proofs.Opening.{only_driver, opens}
use Rattle.lease_discipline.proofs.Laws.{pushes_find_free}

-- ---- the same in both words

to_courses : (c : ClusterState) (log : List Entry) → AllTold (running c log) → TellsCourses log c
to_courses c log a = record {
  told = λ later w.
      let h : HoldsAt (course_from (c.network ++ later) w (opening_course w) log) c.workers w = a.held later w in
      record { there = h.there; absent = h.absent };
  given = a.given;
}

of_courses : (c : ClusterState) (log : List Entry) → TellsCourses log c → AllTold (running c log)
of_courses c log t = record {
  held = λ later w. let h = t.told later w in record { there = h.there; absent = h.absent };
  given = t.given;
}

-- ---- a sound run with its leases in order is disciplined

all_at : (P : Envelope → Type 0) (ls : List Envelope) (i : ℕ) (l : Envelope) → AllByRecursion P ls → slice_get ls i ≡ Some l → P l
all_at P [] i l all e = absurd (cc)
all_at P (x ∷ ls) zero l all e = let same : x ≡ l = cc in subst P same all.0
all_at P (x ∷ ls) (suc i) l all e = all_at P ls i l all.1 e

out_phase : (p : Phase) (j : ℕ) → pace_in p ≡ IsOut j → p ≡ Out j
out_phase (Out i) j e = let f : i ≡ j = cc in ap (λ k. Out k) f
out_phase Ready j e = absurd (cc)
out_phase (Waits y f) j e = absurd (cc)
out_phase (HasEnded c) j e = absurd (cc)
out_phase (HasFaulted f) j e = absurd (cc)

module _ (s : Setting) (log : List Entry) (c : ClusterState) (sound : IsSound s log c) (leases : KeepsLeases c) where
  abbrev b : Between s log c
  b = sound.between

  -- whoever is pushed to runs the attempt, by the log
  pub push_runs : (w u : ℕ) (a : Attempt) (spec : Birth) → Among (envelope (TheWorker u) (TheWorker w) (Push a spec)) c.network → worker_of a log ≡ Some w
  push_runs w u a spec came =
      let says : IsPushed log a spec w = all_at (Says (past log b.asked)) c.network came.0
      (envelope (TheWorker u) (TheWorker w) (Push a spec)) b.knows.told came.1 in
      says.runs

  run_runs : (w : ℕ) (x : Worker) (run : Execution) → worker_at c w ≡ Some x → x.is_live ≡ true → x.run ≡ Some run → worker_of run.attempt log ≡ Some w
  run_runs w x run at live e = ((b.knows.workers w x at live).run run e).runs

  same_worker : (a : Attempt) (v w : ℕ) → worker_of a log ≡ Some v → worker_of a log ≡ Some w → v ≡ w
  same_worker a v w e f = let g : ◌≡◌ {A = Option ℕ} (Some v) (Some w) = sym e ∙ f in cc

  -- the live worker w has none of whom the log says that another runs it
  not_present : (a : Attempt) (v w : ℕ) (y : Worker) → worker_of a log ≡ Some v → v ≢ w → worker_at c w ≡ Some y → y.is_live ≡ true →
      is_attempt (attempt_by y.run) a ≡ false
  not_present a v w y runs apart at live = by_run y.run refl
    where
      by_run : (r : Option Execution) → y.run ≡ r → is_attempt (attempt_by r) a ≡ false
      by_run None e = refl
      by_run (Some run) e = false_from_ne_true _ (λ same. apart (same_worker a v w runs
          (ap (λ i. worker_of i log) (sym (same_attempt-true run.attempt a same)) ∙ run_runs w y run at live e)))

  pub disciplined : IsDisciplined c
  disciplined = record {
    fits = λ k w from a spec x sent at live unbegun. pushes_find_free c leases k w from a spec x sent at live unbegun;
    pushed_by = λ k w from a spec sent. let p = pushed k w from a spec sent in (p.owner, p.from_worker);
    pushed_to = λ k w from a spec sent none.
        let p = pushed k w from a spec sent in
        let i : IsOfNode (worker_at c) p.node w = leases.workers.envelopes _ p.given.1 in
        let f = i.there in
        absurd (cc);
    pushed_alone = λ k v w from a spec sent apart y at live.
        let p = pushed k v from a spec sent in
        let came = subst (λ q. Among (envelope q (TheWorker v) (Push a spec)) c.network) p.from_worker (among_at c.network k _ sent) in
        not_present a v w y (push_runs v p.owner a spec came) apart at live;
    alone = λ v w x at live apart y there lives a e. by_attempt v w x at live apart y there lives a x.run refl e;
    jobs = λ w j y g at live out given. by_job w j y g at given y.run refl out;
    housed = λ w x at live. leases.homes w x at;
  }
    where
      pushed : (k w : ℕ) (from : Endpoint) (a : Attempt) (spec : Birth) → item_at c.network k ≡ Some (envelope from (TheWorker w) (Push a spec)) →
          D.IsPushed c.network from w a
      pushed k w from a spec sent = leases.workers.envelopes (envelope from (TheWorker w) (Push a spec))
          (among_at c.network k (envelope from (TheWorker w) (Push a spec)) sent)

      by_attempt : (v w : ℕ) (x : Worker) → worker_at c v ≡ Some x → x.is_live ≡ true → v ≢ w → (y : Worker) → worker_at c w ≡ Some y → y.is_live ≡ true →
          (a : Attempt) (r : Option Execution) → x.run ≡ r → attempt_by r ≡ Some a → is_attempt (attempt_by y.run) a ≡ false
      by_attempt v w x at live apart y there lives a None e f = absurd (cc)
      by_attempt v w x at live apart y there lives a (Some run) e f =
          let same : run.attempt ≡ a = cc in
          not_present a v w y (subst (λ i. worker_of i log ≡ Some v) same (run_runs v x run at live e)) apart there lives

      by_job : (w j : ℕ) (y : Worker) (g : JobRecord) → worker_at c w ≡ Some y → item_at c.jobs j ≡ Some g → (r : Option Execution) → y.run ≡ r →
          pace_by r ≡ IsOut j → g.worker ≡ w
      by_job w j y g at given None e out = absurd (cc)
      by_job w j y g at given (Some run) e out =
          let i = (leases.workers.each w y at).out run j e (out_phase run.phase j out) in
          let f : ◌≡◌ {A = Option JobRecord} (Some g) (Some i.0) = sym given ∙ i.1 in
          let same : g ≡ i.0 = cc in
          ap (λ (z : JobRecord). z.worker) same ∙ i.2

-- ---- the opening

swapped : (w : ℕ) → (w == 1) ≡ false → w ≡ 1 → ⊥
swapped w e f = grind (arith, nat_tests)

same_one : (w : ℕ) → (w == 1) ≡ true → w ≡ 1
same_one w e = grind (arith, nat_tests)

module _ (nodes slots : ℕ) where
  abbrev start : ClusterState
  start = first_whole nodes slots

  abbrev of_driver : Course
  of_driver = record { given = 0; began = main_attempt ∷ []; pace = GoesOn }

  abbrev of_nobody : Course
  of_nobody = record { given = 0; began = []; pace = HasStopped }

  driver_told : (w : ℕ) → w ≡ 1 → IsToldOf of_driver start w
  driver_told w one = record {
    there = λ x at live. subst (IsAsTold of_driver) (only_driver w x at).1 (record { began = λ a. refl; last = refl; pace = refl });
    absent = λ none n. let f : ◌≡◌ {A = Option Worker} (Some driver) None = ap (worker_at start) (sym one) ∙ none in absurd (cc);
  }

  nobody_told : (w : ℕ) → (w ≡ 1 → ⊥) → IsToldOf of_nobody start w
  nobody_told w other = record {
    there = λ x at live. absurd (other (only_driver w x at).0);
    absent = λ none n. record { began = λ a. refl; last = refl; pace = refl };
  }

  opening_courses : TellsCourses opening start
  unfolding course_from
  opening_courses = record {
    told = λ later w. at_test (λ b. (w == 1) ≡ b → IsToldOf (if b then of_driver else of_nobody) start w) (w == 1)
        (λ _ e. driver_told w (same_one w e)) (λ _ e. nobody_told w (swapped w e)) refl;
    given = λ later w. at_test (λ b. (if b then of_driver else of_nobody).given ≡ 0) (w == 1) (λ _. refl) (λ _. refl);
  }

-- ---- the laws of runs in step

pub opening_is_in_step : OpeningIsInStep
opening_is_in_step s slots some = record {
  sound = opening_is_sound s slots some;
  leases = opens s.nodes slots some;
  courses = opening_courses s.nodes slots;
}

pub events_stay_in_step : EventsStayInStep
events_stay_in_step s apart log c e seat handed step right = record {
  sound = event_keeps_sound s apart log c e seat handed step.sound right;
  leases = events_keep c e handed step.leases;
  courses = to_courses (whole_after c (answer c e handed)) (log ++ logged e seat (answer c e handed))
      (event_told (running c log) (record { event = e; seat = seat; handed = handed }) (disciplined s log c step.sound step.leases)
      (of_courses c log step.courses));
}

agrees_now : (s : Setting) (log : List Entry) (c : ClusterState) → IsInStep s log c → (w : ℕ) (x : Worker) → worker_at c w ≡ Some x → x.is_live ≡ true →
    IsAsTold (course (seen s (running c log)) w) x
agrees_now s log c step w x at live =
    subst (λ ls. IsAsTold (course_from ls w (opening_course w) log) x) (append-nil c.network) ((step.courses.told [] w).there x at live)

pub logs_tell : LogsTell
logs_tell s log c step w x at live = agrees_now s log c step w x at live

-- ---- who lives, by the log

from_mapped : (f : Worker → ℕ) (xs : List Worker) (i : ℕ) (x : Worker) → slice_get xs i ≡ Some x → slice_get (map f xs) i ≡ Some (f x)
from_mapped f [] i x e = absurd (cc)
from_mapped f (y ∷ xs) zero x e = let same : y ≡ x = cc in ap (λ z. Some (f z)) same
from_mapped f (y ∷ xs) (suc i) x e = from_mapped f xs i x e

none_mapped : (f : Worker → ℕ) (xs : List Worker) (i : ℕ) → slice_get xs i ≡ None → slice_get (map f xs) i ≡ None
none_mapped f [] i e = refl
none_mapped f (y ∷ xs) zero e = absurd (cc)
none_mapped f (y ∷ xs) (suc i) e = none_mapped f xs i e

node_at_work : (xs : List Worker) (w : ℕ) (x : Worker) → item_at xs w ≡ Some x → from_one (map (λ (y : Worker). y.node) xs) w ≡ Some x.node
node_at_work xs zero x e = absurd (cc)
node_at_work xs (suc i) x e = from_mapped (λ y. y.node) xs i x e

pub nowhere : (xs : List Worker) (w : ℕ) → item_at xs w ≡ None → from_one (map (λ (y : Worker). y.node) xs) w ≡ None
nowhere xs zero e = refl
nowhere xs (suc i) e = none_mapped (λ y. y.node) xs i e

dead_nowhere : (w : ℕ) (log : List Entry) → node_of w log ≡ None → is_live w log ≡ false
unfolding is_live
dead_nowhere w log e = ap (λ o. on_node o false (λ n. not (list_any (kills w n) (accepted_events log)))) e

pub locations : (s : Setting) (log : List Entry) (c : ClusterState) → Between s log c → (w : ℕ) (x : Worker) → worker_at c w ≡ Some x → node_of w log ≡ Some x.node
locations s log c b w x at = ap (λ ns. from_one ns w) b.knows.opened ∙ node_at_work c.workers w x at

pub lives_there : (s : Setting) (log : List Entry) (c : ClusterState) → Between s log c → (w : ℕ) → is_live w log ≡ true →
    (x : Worker) × (worker_at c w ≡ Some x) × (x.is_live ≡ true)
lives_there s log c b w live = by_worker (worker_at c w) refl
  where
    by_worker : (o : Option Worker) → worker_at c w ≡ o → (x : Worker) × (worker_at c w ≡ Some x) × (x.is_live ≡ true)
    by_worker None e = absurd (both_ways (is_live w log) (dead_nowhere w log (ap (λ ns. from_one ns w) b.knows.opened ∙ nowhere c.workers w e)) live)
    by_worker (Some x) e = (x, e, sym (b.knows.lives w x e) ∙ live)

pub log_tells : (s : Setting) (log : List Entry) (c : ClusterState) → IsInStep s log c → C.LogTells s (running c log)
log_tells s log c step = record {
  there = λ w live. lives_there s log c step.sound.between w live;
  locations = λ w x at. locations s log c step.sound.between w x at;
  agrees = λ w x at live. agrees_now s log c step w x at live;
}

-- ---- claims

same_entries : (a : Answer) → C.entries_of a ≡ entries_of a
same_entries (Takes step) = refl
same_entries (Refuses code) = refl

pub claims_are_answered : ClaimsAreAnswered
claims_are_answered s log c step e handed = record {
  ready = λ w is ready. (of_claim w is).ready w is ready;
  others = λ w is lives unready. (of_claim w is).others w is lives unready;
}
  where
    of_claim : (w : ℕ) → e ≡ Claim w → ClaimIsAnswered (seen s (running c log)) e (entries_of (answer c e handed))
    of_claim w is =
        subst (λ i. ClaimIsAnswered (seen s (running c log)) i (entries_of (answer c i handed))) (sym is)
        (subst (λ es. ClaimIsAnswered (seen s (running c log)) (Claim w) es) (same_entries (answer c (Claim w) handed))
        (C.claims_are_answered s (running c log) (log_tells s log c step) w 0 handed))

-- ---- an attempt runs on one worker

pub attempts_run_once : AttemptsRunOnce
attempts_run_once s log c step a v w x y at there began begun = same_runner (runs v x at began) (runs w y there begun)
  where
    same_runner : worker_of a log ≡ Some v → worker_of a log ≡ Some w → v ≡ w
    same_runner e f = same_worker s log c step.sound step.leases a v w e f

    runs : (u : ℕ) (z : Worker) → worker_at c u ≡ Some z → has_begun a z.began ≡ true → worker_of a log ≡ Some u
    runs u z e f = elim ((step.leases.workers.each u z e).began a f) [
      | inl (main, first) ↦ ap (λ i. worker_of i log) main ∙ main_runs ∙ ap (λ i. Some i) (sym first)
      | inr p ↦ push_runs s log c step.sound step.leases u p.0 a p.1 p.2
    ]
      where
        main_runs : worker_of main_attempt log ≡ Some 1
        main_runs = (legal_logs_are_sane (setting_of s c) log step.sound.between.legal).main
