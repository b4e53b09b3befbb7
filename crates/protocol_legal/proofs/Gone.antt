-- An object is resolved: whoever waits for it is answered.
use Rattle.std.proofs.Common.{◌≡◌, ℕ, true, List, [], ◌∷◌, Option, Some, None, inl, refl, sym, ap, ◌∙◌, subst, arith}
use Rattle.std.specs.Prelude.{◌==◌, slice_get, if◌then◌else◌}
use Rattle.std.proofs.lemmas.Bool.Decides.{nat_tests}
use Rattle.meaning.specs.Values.{Id}
use Rattle.meaning.proofs.BirthLaws.{at_test, same_id-true}
use Rattle.kind_laws.specs.of_event_log.Entries.{Fault}
use Rattle.step_laws.specs.of_protocol.Sets.{object_id}
use Rattle.step_laws.specs.of_protocol.Messages.{Gone}
use Rattle.step_laws.specs.of_protocol.Tables.{Object, Phase, Ready, Out, Waits, HasEnded, HasFaulted, Execution, without_askers, is_waiting_for, needed_by, object_needed, is_same_id}
use Rattle.step_laws.specs.of_protocol.Steps.{WorkerContext, says, own_object, changes}
use Rattle.step_laws.specs.of_protocol.Runs.{faults, faults_by, faults_at}
use Rattle.step_laws.specs.of_protocol.Asking.{tells_gone, faults_if_waiting, answers_gone, answers_faulted_by, answers_faulted}
use Rattle.protocol_legal.specs.Past.{Asking}
use Rattle.protocol_legal.specs.Says.{IsGone}
use Rattle.protocol_legal.specs.Knows.{listed, KnowsObject, KnowsPhase, KnowsRun}
use Rattle.protocol_legal.specs.During.{Frame, so_far, SoundHere}
use Rattle.protocol_legal.proofs.Allowing.{may_fault_gone}
use Rattle.protocol_legal.proofs.Steps.{now, here_says}
use Rattle.protocol_legal.proofs.Stopping.{faults_sound}
use Rattle.protocol_legal.proofs.RowChange.{without_askers_sound}

-- ---- whoever waits for it is answered

module _ (f : Frame) (asked : List Asking) (o : Id) (g : Fault) where
  tells_gone_sound : (h : WorkerContext) (ws : List ℕ) → SoundHere f asked h → IsGone (so_far f h.there.out.entries) o g → SoundHere f asked (tells_gone h ws o g)
  tells_gone_sound h [] s gone = s
  tells_gone_sound h (w ∷ ws) s gone = tells_gone_sound (says h w (Gone o g)) ws (here_says f asked h s w (Gone o g) gone) gone

  pub tells_gone_keeps : (h : WorkerContext) (ws : List ℕ) → (tells_gone h ws o g).worker ≡ h.worker
  tells_gone_keeps h [] = refl
  tells_gone_keeps h (w ∷ ws) = tells_gone_keeps (says h w (Gone o g)) ws

  tells_gone_logs : (h : WorkerContext) (ws : List ℕ) → (tells_gone h ws o g).there.out.entries ≡ h.there.out.entries
  tells_gone_logs h [] = refl
  tells_gone_logs h (w ∷ ws) = tells_gone_logs (says h w (Gone o g)) ws

-- the own attempt, where it waits for an object that is gone
module _ (f : Frame) (asked : List Asking) (h : WorkerContext) (s : SoundHere f asked h) (o : Id) (g : Fault) (gone : IsGone (so_far f h.there.out.entries) o g) where
  by_phase : (run : Execution) → h.worker.run ≡ Some run → (phase : Phase) → run.phase ≡ phase → is_same_id (object_needed phase) o ≡ true → SoundHere f asked (faults_at h run g phase)
  by_phase run is (Waits y fetching) e needed =
      let same : y ≡ o = same_id-true y o needed in
      let k : KnowsRun f.setting (so_far f h.there.out.entries) h.me h.worker run = s.knows.run run is in
      let waiting : KnowsPhase f.setting (so_far f h.there.out.entries) h.worker run (Waits y fetching) = subst (KnowsPhase f.setting (so_far f h.there.out.entries) h.worker run) e k.phase in
      faults_sound f asked h s run is y fetching e g gone.known
      (may_fault_gone f.setting (so_far f h.there.out.entries) h.me h.worker run y g s.own k (waiting.0, waiting.1) (subst (λ z. IsGone (so_far f h.there.out.entries) z g) (sym same) gone))
  by_phase run is Ready e needed = s
  by_phase run is (Out j) e needed = s
  by_phase run is (HasEnded c) e needed = s
  by_phase run is (HasFaulted d) e needed = s

  by_run : (r : Option Execution) → h.worker.run ≡ r → is_same_id (needed_by r) o ≡ true → SoundHere f asked (faults_by h g r)
  by_run None is needed = s
  by_run (Some run) is needed = by_phase run is run.phase refl needed

  pub faults_if_waiting_sound : SoundHere f asked (faults_if_waiting h o g)
  faults_if_waiting_sound =
      at_test (λ b. is_waiting_for h.worker o ≡ b → SoundHere f asked (if b then faults h g else h)) (is_waiting_for h.worker o)
      (λ b e. by_run h.worker.run refl e) (λ b e. s) refl

module _ (f : Frame) (asked : List Asking) (h : WorkerContext) (s : SoundHere f asked h) (k : ℕ) where
  abbrev that : Id
  that = object_id h.me k

  answers_by : (ob : Object) → own_object h k ≡ Some ob → (r : Option Fault) → ob.fault ≡ r → SoundHere f asked (answers_gone h that ob r)
  answers_by ob i None e = s
  answers_by ob i (Some g) e =
      let ko : KnowsObject (now f asked h s) h.worker that ob = s.knows.objects k ob i in
      let gone : IsGone (so_far f h.there.out.entries) that g = record { reason = inl (0, ap (λ xs. slice_get xs 0) (ko.resolved ∙ ap listed e)); known = ko.known g e } in
      let told = tells_gone_sound f asked that g (changes h that without_askers) ob.askers (without_askers_sound f asked h s k) gone in
      faults_if_waiting_sound f asked (tells_gone (changes h that without_askers) ob.askers that g) told that g
      (subst (λ es. IsGone (so_far f es) that g) (sym (tells_gone_logs f asked that g (changes h that without_askers) ob.askers)) gone)

  answers_found : (r : Option Object) → own_object h k ≡ r → SoundHere f asked (answers_faulted_by h that r)
  answers_found None e = s
  answers_found (Some ob) e = answers_by ob e ob.fault refl

  pub answers_faulted_sound : SoundHere f asked (answers_faulted h that)
  answers_faulted_sound =
      let mine : (h.me == h.me) ≡ true = grind (arith, nat_tests) in
      subst (λ r. SoundHere f asked (answers_faulted_by h that r)) (sym (ap (λ b. if b then own_object h k else None) mine)) (answers_found (own_object h k) refl)

-- the worker of the event is the same all along
pub answers_faulted_then : (f : Frame) (asked : List Asking) (h g : WorkerContext) (k : ℕ) → SoundHere f asked h → SoundHere f asked g → SoundHere f asked (answers_faulted g (object_id h.me k))
answers_faulted_then f asked h g k s t = subst (λ w. SoundHere f asked (answers_faulted g (object_id w k))) (t.who ∙ sym s.who) (answers_faulted_sound f asked g t k)
