-- What has a content keeps one, whatever is answered, fetched or made again.
use Rattle.std.proofs.Common.{◌≡◌, ℕ, true, List, [], ◌∷◌, Option, Some, None, refl, sym, ap, ◌∙◌, subst}
use Rattle.std.specs.Prelude.{◌==◌, ◌&&◌, not, is_some, if◌then◌else◌}
use Rattle.std.proofs.lemmas.Bool.{eqb-true}
use Rattle.meaning.specs.Values.{Id, Outcome}
use Rattle.meaning.specs.Births.{same_id}
use Rattle.meaning.proofs.BirthLaws.{at_test}
use Rattle.kind_laws.specs.of_event_log.Entries.{Fault, OwnerDied}
use Rattle.kind_laws.specs.of_event_log.Words.{same_attempt}
use Rattle.kind_laws.specs.of_event_log.Entries.{main_attempt}
use Rattle.step_laws.specs.of_protocol.Numbered.{item_at, changed_at}
use Rattle.step_laws.specs.of_protocol.Sets.{fault, has, is_empty}
use Rattle.step_laws.specs.of_protocol.Stores.{copy_in, looked_up}
use Rattle.step_laws.specs.of_protocol.Tables.{Fetching, Object, OwnTask, Phase, Ready, Out, Waits, HasEnded, HasFaulted, Execution, first_by, has_content, has_stopped, is_lost, is_pending_task, is_waiting_for, knows_dead, live_location, owner_of, settled_number, task_by, with_fault, with_task, without_askers, without_location, without_locations}
use Rattle.step_laws.specs.of_protocol.Steps.{WorkerContext, changes, object_at, own_id, own_object, store_here, with_phase, with_run, with_store}
use Rattle.step_laws.specs.of_protocol.Runs.{faults, faults_at, faults_by, gets, gets_at, gets_by, gives_slot_back, leaves, leaves_by, tells, tells_stop, is_heard, with_fetching, with_fetching_at, with_fetching_by}
use Rattle.step_laws.specs.of_protocol.Asking.{answers_faulted, answers_faulted_by, answers_gone, faults_if_waiting, next_attempt, requests, resolves, tells_gone}
use Rattle.step_laws.specs.of_protocol.Recovery.{first_stop, gives_up, is_lost_here, members, recovers, recovers_by, remakes, remakes_by, remakes_one}
use Rattle.step_laws.specs.of_protocol.Locations.{answers_settled, answers_settled_by, looks_at_locations, looks_elsewhere, looks_elsewhere_by, looks_for, looks_for_by, looks_here_by, needs_at, needs_by, needs_own, needs_own_if_waiting, needs_released, tells_locations}
use Rattle.protocol_legal.proofs.Numbers.{item-elsewhere, item-same}

-- the object of that serial has a content
pub record IsThere (xs : List Object) (j : ℕ) : Type 0 where
  pub object : Object
  pub there : item_at xs j ≡ Some object
  pub some : is_some object.settled ≡ true

-- what has a content in one table has one in the other
abbrev pub Keeps : WorkerContext → WorkerContext → Type 0
Keeps h g = (j : ℕ) → IsThere h.worker.objects j → IsThere g.worker.objects j

pub keeps_changed : (xs : List Object) (k : ℕ) (fn : Object → Object) → ((z : Object) → (fn z).settled ≡ z.settled) → (j : ℕ) → IsThere xs j → IsThere (changed_at xs k fn) j
keeps_changed xs k fn same j i =
    at_test (λ b. (j == k) ≡ b → IsThere (changed_at xs k fn) j) (j == k)
    (λ b _. let e = eqb-true j k b in
    subst (IsThere (changed_at xs k fn)) (sym e) (record { object = fn i.object; there = item-same xs k fn i.object (ap (item_at xs) (sym e) ∙ i.there); some = ap is_some (same i.object) ∙ i.some }))
    (λ b _. record { object = i.object; there = item-elsewhere xs j k fn b ∙ i.there; some = i.some }) refl

-- ---- the own attempt

leaves_same : (h : WorkerContext) (run : Execution) → (leaves h run).worker.objects ≡ h.worker.objects
leaves_same h run =
    at_test (λ b. (if b then with_run h (record run { is_acknowledged = true }) else if knows_dead h.worker (owner_of run) then is_heard (tells h run) run else tells h run).worker.objects ≡ h.worker.objects) (same_attempt run.attempt main_attempt)
    (λ b. refl)
    (λ b. at_test (λ c. (if c then is_heard (tells h run) run else tells h run).worker.objects ≡ h.worker.objects) (knows_dead h.worker (owner_of run)) (λ c. told run.phase) (λ c. told run.phase))
  where
    told : (phase : Phase) → (tells_stop (with_run h run) run phase).worker.objects ≡ h.worker.objects
    told Ready = refl
    told (Out j) = refl
    told (Waits y g) = refl
    told (HasEnded cs) = refl
    told (HasFaulted g) = refl

leaves_by_same : (h : WorkerContext) (r : Option Execution) → (leaves_by h r).worker.objects ≡ h.worker.objects
leaves_by_same h None = refl
leaves_by_same h (Some run) =
    at_test (λ b. (if b then leaves h (record run { is_over = true }) else h).worker.objects ≡ h.worker.objects) (has_stopped run.phase && not run.is_over && is_empty run.holds) (λ b. leaves_same h (record run { is_over = true })) (λ b. refl)

faults_at_same : (h : WorkerContext) (run : Execution) (f : Fault) (phase : Phase) → (faults_at h run f phase).worker.objects ≡ h.worker.objects
faults_at_same h run f (Waits y g) = leaves_by_same (gives_slot_back (Rattle.step_laws.specs.of_protocol.Steps.logs (with_phase h run (HasFaulted f)) (Rattle.kind_laws.specs.of_event_log.Entries.Faulted run.attempt y f))) (Some (record run { phase = HasFaulted f }))
faults_at_same h run f Ready = refl
faults_at_same h run f (Out j) = refl
faults_at_same h run f (HasEnded cs) = refl
faults_at_same h run f (HasFaulted g) = refl

faults_same : (h : WorkerContext) (f : Fault) → (faults h f).worker.objects ≡ h.worker.objects
faults_same h f = by h.worker.run
  where
    by : (r : Option Execution) → (faults_by h f r).worker.objects ≡ h.worker.objects
    by None = refl
    by (Some run) = faults_at_same h run f run.phase

gets_same : (h : WorkerContext) (c : Outcome) → (gets h c).worker.objects ≡ h.worker.objects
gets_same h c = by h.worker.run
  where
    at : (run : Execution) (phase : Phase) → (gets_at h run c phase).worker.objects ≡ h.worker.objects
    at run (Waits y g) = refl
    at run Ready = refl
    at run (Out j) = refl
    at run (HasEnded cs) = refl
    at run (HasFaulted g) = refl

    by : (r : Option Execution) → (gets_by h c r).worker.objects ≡ h.worker.objects
    by None = refl
    by (Some run) = at run run.phase

fetching_same : (h : WorkerContext) (f : Option Fetching) → (with_fetching h f).worker.objects ≡ h.worker.objects
fetching_same h f = by h.worker.run
  where
    at : (run : Execution) (phase : Phase) → (with_fetching_at h run f phase).worker.objects ≡ h.worker.objects
    at run (Waits y g) = refl
    at run Ready = refl
    at run (Out j) = refl
    at run (HasEnded cs) = refl
    at run (HasFaulted g) = refl

    by : (r : Option Execution) → (with_fetching_by h f r).worker.objects ≡ h.worker.objects
    by None = refl
    by (Some run) = at run run.phase

keeps_faults : (h : WorkerContext) (f : Fault) → Keeps h (faults h f)
keeps_faults h f j i = subst (λ xs. IsThere xs j) (sym (faults_same h f)) i

-- ---- whoever waits for a resolved object

tells_gone_same : (h : WorkerContext) (ws : List ℕ) (o : Id) (g : Fault) → (tells_gone h ws o g).worker.objects ≡ h.worker.objects
tells_gone_same h [] o g = refl
tells_gone_same h (w ∷ ws) o g = tells_gone_same (Rattle.step_laws.specs.of_protocol.Steps.says h w (Rattle.step_laws.specs.of_protocol.Messages.Gone o g)) ws o g

keeps_waiting : (h : WorkerContext) (o : Id) (f : Fault) → Keeps h (faults_if_waiting h o f)
keeps_waiting h o f = at_test (λ b. Keeps h (if b then faults h f else h)) (is_waiting_for h.worker o) (λ b. keeps_faults h f) (λ b j i. i)

keeps_gone : (h : WorkerContext) (o : Id) (x : Object) (r : Option Fault) → Keeps h (answers_gone h o x r)
keeps_gone h o x None j i = i
keeps_gone h o x (Some f) j i =
    keeps_waiting (tells_gone (changes h o without_askers) x.askers o f) o f j
    (subst (λ xs. IsThere xs j) (sym (tells_gone_same (changes h o without_askers) x.askers o f)) (keeps_changed h.worker.objects o.serial without_askers (λ z. refl) j i))

keeps_faulted : (h : WorkerContext) (o : Id) → Keeps h (answers_faulted h o)
keeps_faulted h o = by (object_at h o)
  where
    by : (r : Option Object) → Keeps h (answers_faulted_by h o r)
    by None j i = i
    by (Some x) j i = keeps_gone h o x x.fault j i

-- ---- a lost object is made again

keeps_requests : (h : WorkerContext) (o : Id) (task : OwnTask) → Keeps h (requests h o task)
keeps_requests h o task j i = keeps_changed h.worker.objects o.serial (with_task (record task { progress = Rattle.step_laws.specs.of_protocol.Tables.AskedAt 0 h.worker.node })) (λ z. refl) j i

keeps_remakes_by : (h : WorkerContext) (k : ℕ) (r : Option OwnTask) → Keeps h (remakes_by h k r)
keeps_remakes_by h k None = λ j i. i
keeps_remakes_by h k (Some task) = at_test (λ b. Keeps h (if b then h else requests h (own_id h k) (next_attempt task))) (is_pending_task task) (λ b j i. i) (λ b. keeps_requests h (own_id h k) (next_attempt task))

keeps_remakes_one : (h : WorkerContext) (k : ℕ) (r : Option Object) → Keeps h (remakes_one h k r)
keeps_remakes_one h k None = λ j i. i
keeps_remakes_one h k (Some x) = keeps_remakes_by h (first_by k x.source) (task_by h.worker.objects x.source)

keeps_remakes : (h : WorkerContext) (ks : List ℕ) → Keeps h (remakes h ks)
keeps_remakes h [] j i = i
keeps_remakes h (k ∷ ks) j i = keeps_remakes (remakes_one h k (own_object h k)) ks j (keeps_remakes_one h k (own_object h k) j i)

keeps_resolves : (h : WorkerContext) (o : Id) (f : Fault) → Keeps h (resolves h o f)
keeps_resolves h o f j i = keeps_changed h.worker.objects o.serial (with_fault f) (λ z. refl) j i

keeps_gives_up : (h : WorkerContext) (o : Id) (f : Fault) → Keeps h (gives_up h o f)
keeps_gives_up h o f =
    at_test (λ b. Keeps h (if b then answers_faulted (resolves h o f) o else answers_faulted (answers_faulted (resolves (resolves h f.object f) o f) f.object) o)) (same_id f.object o)
    (λ b j i. keeps_faulted (resolves h o f) o j (keeps_resolves h o f j i))
    (λ b j i. let two = resolves (resolves h f.object f) o f in
    keeps_faulted (answers_faulted two f.object) o j (keeps_faulted two f.object j (keeps_resolves (resolves h f.object f) o f j (keeps_resolves h f.object f j i))))

keeps_recovers : (h : WorkerContext) (o : Id) → Keeps h (recovers h o)
keeps_recovers h o = by (first_stop h (members h o.serial))
  where
    by : (r : Option Fault) → Keeps h (recovers_by h o (members h o.serial) r)
    by None = keeps_remakes h (members h o.serial)
    by (Some f) = keeps_gives_up h o f

-- ---- the own attempt needs an own object

keeps_elsewhere : (h : WorkerContext) (o : Id) (x : Object) → Keeps h (looks_elsewhere h o x)
keeps_elsewhere h o x = by (live_location h.worker x.locations)
  where
    by : (r : Option ℕ) → Keeps h (looks_elsewhere_by h o x r)
    by None =
        let g = changes h o without_locations in
        at_test (λ b. Keeps h (if b then recovers g o else g)) (is_lost_here g o)
        (λ b j i. keeps_recovers g o j (keeps_changed h.worker.objects o.serial without_locations (λ z. refl) j i)) (λ b j i. keeps_changed h.worker.objects o.serial without_locations (λ z. refl) j i)
    by (Some n) = λ j i. subst (λ xs. IsThere xs j) (sym (fetching_same h (Some (record { number = settled_number x; node = n })))) i

keeps_at_locations : (h : WorkerContext) (o : Id) (x : Object) → Keeps h (looks_at_locations h o x)
keeps_at_locations h o x =
    at_test (λ b. Keeps h (if b then looks_here_by h o x (copy_in (store_here h) o (settled_number x)) else looks_elsewhere h o x)) (has x.locations h.worker.node)
    (λ b. by (copy_in (store_here h) o (settled_number x))) (λ b. keeps_elsewhere h o x)
  where
    by : (r : Option Outcome) → Keeps h (looks_here_by h o x r)
    by None j i = keeps_elsewhere (changes h o (without_location h.worker.node)) o (without_location h.worker.node x) j (keeps_changed h.worker.objects o.serial (without_location h.worker.node) (λ z. refl) j i)
    by (Some c) j i = subst (λ xs. IsThere xs j) (sym (gets_same (with_store h (looked_up (store_here h) o (settled_number x))) c)) i

keeps_looks : (h : WorkerContext) (o : Id) (x : Object) → Keeps h (looks_for h o x)
keeps_looks h o x = by x.kept
  where
    by : (r : Option Outcome) → Keeps h (looks_for_by h o x r)
    by None = keeps_at_locations h o x
    by (Some c) = λ j i. subst (λ xs. IsThere xs j) (sym (gets_same h c)) i

keeps_released : (h : WorkerContext) (r : Option Id) → Keeps h (needs_released h r)
keeps_released h None = λ j i. i
keeps_released h (Some e) = keeps_faults h (fault OwnerDied e)

keeps_needs_at : (h : WorkerContext) (o : Id) (r : Option Object) → Keeps h (needs_at h o r)
keeps_needs_at h o None = λ j i. i
keeps_needs_at h o (Some x) = by x.fault
  where
    by : (r : Option Fault) → Keeps h (needs_by h o x r)
    by None =
        at_test (λ b. Keeps h (if b then looks_for h o x else if is_lost h.worker.objects x then recovers h o else if x.is_released then needs_released h x.dead_holder else h)) (has_content x) (λ b. keeps_looks h o x)
        (λ b. at_test (λ c. Keeps h (if c then recovers h o else if x.is_released then needs_released h x.dead_holder else h)) (is_lost h.worker.objects x) (λ c. keeps_recovers h o)
        (λ c. at_test (λ d. Keeps h (if d then needs_released h x.dead_holder else h)) x.is_released (λ d. keeps_released h x.dead_holder) (λ d j i. i)))
    by (Some f) = keeps_faults h f

keeps_needs : (h : WorkerContext) (o : Id) → Keeps h (needs_own_if_waiting h o)
keeps_needs h o =
    at_test (λ b. Keeps h (if b then needs_own h o else h)) (is_waiting_for h.worker o)
    (λ b j i. keeps_needs_at (with_fetching h None) o (object_at h o) j (subst (λ xs. IsThere xs j) (sym (fetching_same h None)) i)) (λ b j i. i)

tells_locations_same : (h : WorkerContext) (ws : List ℕ) (o : Id) (x : Object) → (tells_locations h ws o x).worker.objects ≡ h.worker.objects
tells_locations_same h [] o x = refl
tells_locations_same h (w ∷ ws) o x = tells_locations_same (Rattle.step_laws.specs.of_protocol.Steps.says h w (Rattle.step_laws.specs.of_protocol.Messages.At o (settled_number x) x.locations x.kept)) ws o x

-- whoever waits for an object is answered
pub keeps_answers : (h : WorkerContext) (o : Id) → Keeps h (answers_settled h o)
keeps_answers h o = by (object_at h o)
  where
    by : (r : Option Object) → Keeps h (answers_settled_by h o r)
    by None j i = i
    by (Some x) j i =
        keeps_needs (tells_locations (changes h o without_askers) x.askers o x) o j
        (subst (λ xs. IsThere xs j) (sym (tells_locations_same (changes h o without_askers) x.askers o x)) (keeps_changed h.worker.objects o.serial without_askers (λ z. refl) j i))
