-- What has a content keeps one, whatever is answered, fetched or made again.
use Rattle.std.proofs.Common.{◌≡◌, ℕ, Bool, true, false, List, [], ◌∷◌, inl, inr, Option, Some, None, refl, sym, ◌∙◌, ap, subst}
use Rattle.std.specs.Prelude.{◌&&◌, if◌then◌else◌, is_some}
use Rattle.meaning.specs.Values.{Id, Outcome}
use Rattle.meaning.specs.Births.{same_id}
use Rattle.event_log.specs.Entries.{Fault, OwnerDied, main_attempt}
use Rattle.event_log.specs.Entries as logged
use Rattle.event_log.specs.Words.{same_attempt}
use Rattle.step_laws.specs.of_protocol.Numbered.{item_at}
use Rattle.step_laws.specs.of_protocol.Sets.{fault, has, is_empty}
use Rattle.step_laws.specs.of_protocol.Messages.{At, Gone}
use Rattle.step_laws.specs.of_protocol.Stores.{copy_in, looked_up}
use Rattle.step_laws.specs.of_protocol.Tables.{Fetching, Object, OwnTask, Phase, Ready, Out, Waits, HasEnded, HasFaulted, Execution, AskedAt, first_by, has_content, has_stopped, is_lost, is_pending_task, is_waiting_for, knows_dead, live_location, owner_of, settled_number, task_by, with_fault, with_task, without_askers, without_location, without_locations}
use Rattle.step_laws.specs.of_protocol.Steps.{WorkerContext, changes, logs, object_at, own_id, own_object, says, store_here, with_phase, with_run, with_store}
use Rattle.step_laws.specs.of_protocol.Runs.{tells_stop, tells, is_heard, leaves, leaves_by, gives_slot_back, faults_at, faults_by, faults, gets_at, gets_by, gets, fetches, with_fetching_at, with_fetching_by, with_fetching}
use Rattle.step_laws.specs.of_protocol.Asking.{requests, next_attempt, resolves, tells_gone, faults_if_waiting, answers_gone, answers_faulted_by, answers_faulted}
use Rattle.step_laws.specs.of_protocol.Recovery.{is_lost_here, members, first_stop, remakes_by, remakes_one, remakes, gives_up, recovers_by, recovers, recovers_if_lost}
use Rattle.step_laws.specs.of_protocol.Locations.{looks_elsewhere_by, looks_elsewhere, looks_here_by, looks_at_locations, looks_for_by, looks_for, needs_released, needs_unresolved, needs_by, needs_at, needs_own, needs_own_if_waiting, tells_locations, answers_settled_by, answers_settled}
use Rattle.step_laws.proofs.Lists.{changed_cases}

-- ---- the attempt's answers change no object
tells_stop_objects : (h : WorkerContext) (run : Execution) (p : Phase) → (tells_stop h run p).worker.objects ≡ h.worker.objects
tells_stop_objects h run (HasEnded c) = refl
tells_stop_objects h run (HasFaulted f) = refl
tells_stop_objects h run Ready = refl
tells_stop_objects h run (Out j) = refl
tells_stop_objects h run (Waits y f) = refl

pub objects_if : (b : Bool) (h g k : WorkerContext) → g.worker.objects ≡ h.worker.objects → k.worker.objects ≡ h.worker.objects → (if b then g else k).worker.objects ≡ h.worker.objects
objects_if true h g k x y = x
objects_if false h g k x y = y

leaves_objects : (h : WorkerContext) (run : Execution) → (leaves h run).worker.objects ≡ h.worker.objects
leaves_objects h run =
    let told = tells_stop_objects (with_run h run) run run.phase in
    objects_if (same_attempt run.attempt main_attempt) h (with_run h (record run { is_acknowledged = true })) (if knows_dead h.worker (owner_of run) then is_heard (tells h run) run else tells h run) refl
    (objects_if (knows_dead h.worker (owner_of run)) h (is_heard (tells h run) run) (tells h run) told told)

leaves_by_objects : (h : WorkerContext) (r : Option Execution) → (leaves_by h r).worker.objects ≡ h.worker.objects
leaves_by_objects h None = refl
leaves_by_objects h (Some run) = objects_if (has_stopped run.phase && Rattle.std.specs.Prelude.not run.is_over && is_empty run.holds) h (leaves h (record run { is_over = true })) h (leaves_objects h (record run { is_over = true })) refl

faults_at_objects : (h : WorkerContext) (run : Execution) (f : Fault) (p : Phase) → (faults_at h run f p).worker.objects ≡ h.worker.objects
faults_at_objects h run f (Waits y g) = let k : WorkerContext = gives_slot_back (logs (with_phase h run (HasFaulted f)) (logged.Faulted run.attempt y f)) in leaves_by_objects k k.worker.run
faults_at_objects h run f Ready = refl
faults_at_objects h run f (Out j) = refl
faults_at_objects h run f (HasEnded c) = refl
faults_at_objects h run f (HasFaulted g) = refl

pub faults_by_objects : (h : WorkerContext) (f : Fault) (r : Option Execution) → (faults_by h f r).worker.objects ≡ h.worker.objects
faults_by_objects h f None = refl
faults_by_objects h f (Some run) = faults_at_objects h run f run.phase

pub tells_gone_objects : (ws : List ℕ) (h : WorkerContext) (o : Id) (f : Fault) → (tells_gone h ws o f).worker.objects ≡ h.worker.objects
tells_gone_objects [] h o f = refl
tells_gone_objects (w ∷ ws) h o f = tells_gone_objects ws (says h w (Gone o f)) o f

gets_by_objects : (h : WorkerContext) (c : Outcome) (r : Option Execution) → (gets_by h c r).worker.objects ≡ h.worker.objects
gets_by_objects h c None = refl
gets_by_objects h c (Some run) = by_phase run.phase
  where
    by_phase : (p : Phase) → (gets_at h run c p).worker.objects ≡ h.worker.objects
    by_phase (Waits y f) = refl
    by_phase Ready = refl
    by_phase (Out j) = refl
    by_phase (HasEnded cs) = refl
    by_phase (HasFaulted g) = refl

fetching_objects : (h : WorkerContext) (f : Option Fetching) (r : Option Execution) → (with_fetching_by h f r).worker.objects ≡ h.worker.objects
fetching_objects h f None = refl
fetching_objects h f (Some run) = by_phase run.phase
  where
    by_phase : (p : Phase) → (with_fetching_at h run f p).worker.objects ≡ h.worker.objects
    by_phase (Waits y g) = refl
    by_phase Ready = refl
    by_phase (Out j) = refl
    by_phase (HasEnded cs) = refl
    by_phase (HasFaulted g) = refl

-- ---- each row comes from one that has a content only if it has

abbrev pub KeepsSettled : WorkerContext → WorkerContext → Type 0
KeepsSettled h g = (j : ℕ) (y : Object) → own_object g j ≡ Some y → (x : Object) × (own_object h j ≡ Some x) × (is_some x.settled ≡ true → is_some y.settled ≡ true)

keeps_all : (h : WorkerContext) → KeepsSettled h h
keeps_all h j y at = (y, at, λ k. k)

keeps_same : (h g : WorkerContext) → g.worker.objects ≡ h.worker.objects → KeepsSettled h g
keeps_same h g e j y at = (y, ap (λ xs. item_at xs j) (sym e) ∙ at, λ k. k)

keeps_then : (h g k : WorkerContext) → KeepsSettled h g → KeepsSettled g k → KeepsSettled h k
keeps_then h g k a b j y at = let r = b j y at in let q = a j r.0 r.1 in (q.0, q.1, λ i. r.2 (q.2 i))

keeps_if : (b : Bool) (h g k : WorkerContext) → KeepsSettled h g → KeepsSettled h k → KeepsSettled h (if b then g else k)
keeps_if true h g k x y = x
keeps_if false h g k x y = y

keeps_changed : (h : WorkerContext) (o : Id) (f : Object → Object) → ((x : Object) → (f x).settled ≡ x.settled) → KeepsSettled h (changes h o f)
keeps_changed h o f same j y at = elim (changed_cases h.worker.objects o.serial f j y at) [
  | inl m ↦ (m.1.0, m.1.1, λ i. subst (λ (z : Object). is_some z.settled ≡ true) m.1.2 (ap is_some (same m.1.0) ∙ i))
  | inr m ↦ (y, m.1, λ i. i)
]

-- ---- whoever waits for a resolved object

gone_keeps : (h : WorkerContext) (o : Id) (x : Object) (f : Option Fault) → KeepsSettled h (answers_gone h o x f)
gone_keeps h o x None = keeps_all h
gone_keeps h o x (Some f) =
    let g : WorkerContext = changes h o without_askers in
    let k : WorkerContext = tells_gone g x.askers o f in
    keeps_then h g (faults_if_waiting k o f) (keeps_changed h o without_askers (λ y. refl))
    (keeps_same g (faults_if_waiting k o f) (objects_if (is_waiting_for k.worker o) k (faults k f) k (faults_by_objects k f k.worker.run) refl ∙ tells_gone_objects x.askers g o f))

faulted_by_keeps : (h : WorkerContext) (o : Id) (x : Option Object) → KeepsSettled h (answers_faulted_by h o x)
faulted_by_keeps h o None = keeps_all h
faulted_by_keeps h o (Some x) = gone_keeps h o x x.fault

faulted_keeps : (h : WorkerContext) (o : Id) → KeepsSettled h (answers_faulted h o)
faulted_keeps h o = faulted_by_keeps h o (object_at h o)

-- ---- a lost object

remakes_by_keeps : (h : WorkerContext) (k : ℕ) (r : Option OwnTask) → KeepsSettled h (remakes_by h k r)
remakes_by_keeps h k None = keeps_all h
remakes_by_keeps h k (Some task) =
    keeps_if (is_pending_task task) h h (requests h (own_id h k) (next_attempt task)) (keeps_all h)
    (keeps_changed h (own_id h k) (with_task (record (next_attempt task) { progress = AskedAt 0 h.worker.node })) (λ y. refl))

remakes_one_keeps : (h : WorkerContext) (k : ℕ) (x : Option Object) → KeepsSettled h (remakes_one h k x)
remakes_one_keeps h k None = keeps_all h
remakes_one_keeps h k (Some x) = remakes_by_keeps h (first_by k x.source) (task_by h.worker.objects x.source)

remakes_keeps : (ks : List ℕ) (h : WorkerContext) → KeepsSettled h (remakes h ks)
remakes_keeps [] h = keeps_all h
remakes_keeps (k ∷ ks) h = let g : WorkerContext = remakes_one h k (own_object h k) in keeps_then h g (remakes g ks) (remakes_one_keeps h k (own_object h k)) (remakes_keeps ks g)

resolves_keeps : (h : WorkerContext) (o : Id) (f : Fault) → KeepsSettled h (resolves h o f)
resolves_keeps h o f = keeps_changed h o (with_fault f) (λ y. refl)

gives_up_keeps : (h : WorkerContext) (o : Id) (f : Fault) → KeepsSettled h (gives_up h o f)
gives_up_keeps h o f =
    let a : WorkerContext = resolves h o f in
    let b : WorkerContext = resolves h f.object f in
    let c : WorkerContext = resolves b o f in
    let e : WorkerContext = answers_faulted c f.object in
    keeps_if (same_id f.object o) h (answers_faulted a o) (answers_faulted e o) (keeps_then h a (answers_faulted a o) (resolves_keeps h o f) (faulted_keeps a o))
    (keeps_then h b (answers_faulted e o) (resolves_keeps h f.object f)
    (keeps_then b c (answers_faulted e o) (resolves_keeps b o f) (keeps_then c e (answers_faulted e o) (faulted_keeps c f.object) (faulted_keeps e o))))

recovers_by_keeps : (h : WorkerContext) (o : Id) (ks : List ℕ) (r : Option Fault) → KeepsSettled h (recovers_by h o ks r)
recovers_by_keeps h o ks None = remakes_keeps ks h
recovers_by_keeps h o ks (Some f) = gives_up_keeps h o f

recovers_keeps : (h : WorkerContext) (o : Id) → KeepsSettled h (recovers h o)
recovers_keeps h o = recovers_by_keeps h o (members h o.serial) (first_stop h (members h o.serial))

recovers_if_keeps : (h : WorkerContext) (o : Id) → KeepsSettled h (recovers_if_lost h o)
recovers_if_keeps h o = keeps_if (is_lost_here h o) h (recovers h o) h (recovers_keeps h o) (keeps_all h)

-- ---- the own attempt looks for an object

gets_keeps : (h : WorkerContext) (c : Outcome) → KeepsSettled h (gets h c)
gets_keeps h c = keeps_same h (gets h c) (gets_by_objects h c h.worker.run)

elsewhere_keeps : (h : WorkerContext) (o : Id) (x : Object) (r : Option ℕ) → KeepsSettled h (looks_elsewhere_by h o x r)
elsewhere_keeps h o x None =
    let g : WorkerContext = changes h o without_locations in keeps_then h g (recovers_if_lost g o) (keeps_changed h o without_locations (λ y. refl)) (recovers_if_keeps g o)
elsewhere_keeps h o x (Some n) = keeps_same h (fetches h o (settled_number x) n) (fetching_objects h (Some (record { number = settled_number x; node = n })) h.worker.run)

here_keeps : (h : WorkerContext) (o : Id) (x : Object) (c : Option Outcome) → KeepsSettled h (looks_here_by h o x c)
here_keeps h o x None =
    let g : WorkerContext = changes h o (without_location h.worker.node) in
    let y : Object = without_location h.worker.node x in
    keeps_then h g (looks_elsewhere g o y) (keeps_changed h o (without_location h.worker.node) (λ z. refl)) (elsewhere_keeps g o y (live_location g.worker y.locations))
here_keeps h o x (Some c) = let g : WorkerContext = with_store h (looked_up (store_here h) o (settled_number x)) in keeps_same h (gets g c) (gets_by_objects g c g.worker.run)

locations_keeps : (h : WorkerContext) (o : Id) (x : Object) → KeepsSettled h (looks_at_locations h o x)
locations_keeps h o x =
    keeps_if (has x.locations h.worker.node) h (looks_here_by h o x (copy_in (store_here h) o (settled_number x))) (looks_elsewhere h o x) (here_keeps h o x (copy_in (store_here h) o (settled_number x)))
    (elsewhere_keeps h o x (live_location h.worker x.locations))

looks_keeps : (h : WorkerContext) (o : Id) (x : Object) (r : Option Outcome) → KeepsSettled h (looks_for_by h o x r)
looks_keeps h o x None = locations_keeps h o x
looks_keeps h o x (Some c) = gets_keeps h c

released_keeps : (h : WorkerContext) (e : Option Id) → KeepsSettled h (needs_released h e)
released_keeps h None = keeps_all h
released_keeps h (Some e) = keeps_same h (faults h (fault OwnerDied e)) (faults_by_objects h (fault OwnerDied e) h.worker.run)

unresolved_keeps : (h : WorkerContext) (o : Id) (x : Object) → KeepsSettled h (needs_unresolved h o x)
unresolved_keeps h o x =
    let gone : WorkerContext = if x.is_released then needs_released h x.dead_holder else h in
    keeps_if (has_content x) h (looks_for h o x) (if is_lost h.worker.objects x then recovers h o else gone) (looks_keeps h o x x.kept)
    (keeps_if (is_lost h.worker.objects x) h (recovers h o) gone (recovers_keeps h o) (keeps_if x.is_released h (needs_released h x.dead_holder) h (released_keeps h x.dead_holder) (keeps_all h)))

needs_by_keeps : (h : WorkerContext) (o : Id) (x : Object) (f : Option Fault) → KeepsSettled h (needs_by h o x f)
needs_by_keeps h o x None = unresolved_keeps h o x
needs_by_keeps h o x (Some f) = keeps_same h (faults h f) (faults_by_objects h f h.worker.run)

needs_at_keeps : (h : WorkerContext) (o : Id) (x : Option Object) → KeepsSettled h (needs_at h o x)
needs_at_keeps h o None = keeps_all h
needs_at_keeps h o (Some x) = needs_by_keeps h o x x.fault

needs_own_keeps : (h : WorkerContext) (o : Id) → KeepsSettled h (needs_own h o)
needs_own_keeps h o =
    let g : WorkerContext = with_fetching h None in
    keeps_then h g (needs_at g o (object_at h o)) (keeps_same h g (fetching_objects h None h.worker.run)) (needs_at_keeps g o (object_at h o))

-- ---- whoever waits for an object with a content

tells_locations_objects : (ws : List ℕ) (h : WorkerContext) (o : Id) (x : Object) → (tells_locations h ws o x).worker.objects ≡ h.worker.objects
tells_locations_objects [] h o x = refl
tells_locations_objects (w ∷ ws) h o x = tells_locations_objects ws (says h w (At o (settled_number x) x.locations x.kept)) o x

answers_by_keeps : (h : WorkerContext) (o : Id) (x : Option Object) → KeepsSettled h (answers_settled_by h o x)
answers_by_keeps h o None = keeps_all h
answers_by_keeps h o (Some x) =
    let g : WorkerContext = changes h o without_askers in
    let k : WorkerContext = tells_locations g x.askers o x in
    keeps_then h g (needs_own_if_waiting k o) (keeps_changed h o without_askers (λ y. refl))
    (keeps_then g k (needs_own_if_waiting k o) (keeps_same g k (tells_locations_objects x.askers g o x)) (keeps_if (is_waiting_for k.worker o) k (needs_own k o) k (needs_own_keeps k o) (keeps_all k)))

pub answers_keeps : (h : WorkerContext) (o : Id) → KeepsSettled h (answers_settled h o)
answers_keeps h o = answers_by_keeps h o (object_at h o)
