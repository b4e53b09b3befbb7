-- A Push that reaches a live worker begins its attempt, unless that began before.
use Rattle.std.proofs.Common.{◌≡◌, Some, None, Option, refl, ap, sym, subst, ◌∙◌}
use Rattle.std.specs.Prelude.{Bool, true, false, if◌then◌else◌, not, ◌&&◌, is_some}
use Rattle.sequence.proofs.Places.{list_any-push_right}
use Rattle.meaning.proofs.BirthLaws.{at_test}
use Rattle.meaning.specs.Values.{Birth}
use Rattle.event_log.specs.Entries.{Attempt, Deliver}
use Rattle.event_log.specs.Entries.{NoMessage, Limit}
use Rattle.event_log.specs.Words.{same_attempt}
use Rattle.event_log.proofs.WordLaws.{same_attempt-refl}
use Rattle.protocol_laws.specs.of_protocol.Numbered.{changed_at}
use Rattle.protocol_laws.specs.of_protocol.Sets.{repeated}
use Rattle.protocol_laws.specs.of_protocol.Messages.{Push, TheWorker}
use Rattle.protocol_laws.specs.of_protocol.Jobs.{Job}
use Rattle.protocol_laws.specs.of_protocol.Tables.{new_worker}
use Rattle.protocol_laws.specs.of_protocol.Steps.{WorkerContext}
use Rattle.protocol_laws.specs.of_protocol.Runs.{begins_run, is_free, push_reached}
use Rattle.protocol_laws.specs.of_protocol.Releases.{release_step}
use Rattle.protocol_laws.specs.of_protocol.Deliveries.{reached}
use Rattle.protocol_laws.specs.of_protocol.Cluster.{Transition, ClusterState, after_worker, here, moved, worker_at, worker_does, worker_does_at, worker_does_by}
use Rattle.protocol_laws.specs.of_protocol.Events.{delivered, delivered_by, is_live_worker, with_delivered}
use Rattle.protocol_laws.specs.of_protocol.Answers.{Answer, Refuses, Step, Takes, decided, takes}
use Rattle.protocol_laws.specs.of_protocol.Refusals.{is_within_limits, refusal, unless}
use Rattle.protocol_laws.specs.of_protocol_owed.Courses.{has_begun}
use Rattle.protocol_laws.proofs.of_protocol_owed.Nodes.{there_more}
use Rattle.protocol_laws.proofs.of_protocol_owed.RunMoves as R
use Rattle.protocol_laws.proofs.of_smallest_steps.Smallest.{AnyOver, AnyTold}
use Rattle.lease_discipline.specs.Law.{PushesBegin}
use Rattle.lease_discipline.proofs.Heres.{changed_now}
use Rattle.lease_discipline.proofs.Laws.{pushes_find_free}

-- what was begun stays so
begun_kept : (a : Attempt) → R.IsKept AnyTold AnyOver (λ h. has_begun a h.worker.began ≡ true)
begun_kept a = record {
  logs_plain = λ h es _ p. p;
  says_plain = λ h w m _ p. p;
  says_plain_to_node = λ h n m _ p. p;
  objects = λ h x _ _ _ began p. ap (has_begun a) began ∙ p;
  store = λ h s p. p;
  frees = λ h p. p;
  asks = λ h p. p;
  run = λ h run next e k p. p;
  leaves = λ h run next e _ _ _ _ p. p;
  gets = λ h run c y f e q p. p;
  faults = λ h run f y g e q p. p;
  tells_end = λ h run n rs _ _ p. p;
  tells_fault = λ h run f _ _ p. p;
  back = λ h run _ _ p. p;
  hears = λ h w b _ p. p;
  back_of = λ h n b _ p. p;
}

-- a worker that is free, or began the attempt, has begun it then
push_begins : (h : WorkerContext) (a : Attempt) (spec : Birth) → (has_begun a h.worker.began ≡ false → is_free h.worker.run ≡ true) →
    has_begun a (push_reached h a spec).worker.began ≡ true
push_begins h a spec fits = by_test (has_begun a h.worker.began) refl
  where
    by_test : (b : Bool) → has_begun a h.worker.began ≡ b → has_begun a (push_reached h a spec).worker.began ≡ true
    by_test true e =
        at_test (λ b. has_begun a (if b then begins_run h a spec else h).worker.began ≡ true) (is_free h.worker.run && not (has_begun a h.worker.began))
        (λ _. list_any-push_right (λ i. same_attempt i a) h.worker.began a (same_attempt-refl a)) (λ _. e)
    by_test false e =
        let test : (is_free h.worker.run && not (has_begun a h.worker.began)) ≡ true =
        ap (λ b. b && not (has_begun a h.worker.began)) (fits e) ∙ ap not e in
        subst (λ b. has_begun a (if b then begins_run h a spec else h).worker.began ≡ true) (sym test)
        (list_any-push_right (λ i. same_attempt i a) h.worker.began a (same_attempt-refl a))

whole_of : ClusterState → Answer → ClusterState
whole_of c (Takes s) = s.whole
whole_of c (Refuses code) = c

taken_whole : (m : Transition) (given : Option Job) (b : Bool) (step : Step) → (if b then takes m given else Refuses Limit) ≡ Takes step → m.whole ≡ step.whole
unfolding whole_of
taken_whole m given true step e = ap (whole_of m.whole) e
taken_whole m given false step e = absurd (cc)

pub pushes_begin : PushesBegin
pushes_begin c keeps k w u a spec x handed step sent at live answered =
    let home = keeps.homes w x at in
    let d : ClusterState = with_delivered c k in
    let f : WorkerContext → WorkerContext = λ h. reached h (TheWorker u) (Push a spec) in
    let start : WorkerContext = here d w x home.0 in
    let g : WorkerContext = release_step (f start) in
    let unrefused : refusal c (Deliver k) handed ≡ None = ap (λ y. unless (is_some y) NoMessage) sent in
    let taken : (if is_within_limits (delivered c k).whole then takes (delivered c k) None else Refuses Limit) ≡ Takes step =
    ap (decided c (Deliver k) handed) (sym unrefused) ∙ answered in
    let whole : (delivered c k).whole ≡ (after_worker d w x.node g).whole =
    ap (λ y. (delivered_by c k y).whole) sent ∙
    ap (λ y. (if is_live_worker y then worker_does d w f else moved d).whole) at ∙
    ap (λ b. (if b then worker_does d w f else moved d).whole) live ∙
    ap (λ y. (worker_does_by d w f y).whole) at ∙
    ap (λ y. (worker_does_at d w x f y).whole) home.1 in
    let now : worker_at (after_worker d w x.node g).whole w ≡ Some g.worker =
    there_more (changed_at c.workers w (λ _. g.worker)) (repeated g.there.opened (new_worker x.node)) w g.worker (changed_now c.workers w x g.worker at) in
    let begun : has_begun a g.worker.began ≡ true =
    R.release_step-kept AnyTold AnyOver (λ h. has_begun a h.worker.began ≡ true) (begun_kept a) (f start)
    (push_begins start a spec (λ unbegun. pushes_find_free c keeps k w (TheWorker u) a spec x sent at live unbegun)) in
    (g.worker, ap (λ e. worker_at e w) (sym (taken_whole (delivered c k) None (is_within_limits (delivered c k).whole) step taken) ∙ whole) ∙ now, begun)
