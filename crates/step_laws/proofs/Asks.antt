-- Holders, asks, faults, and objects that are made again.
use Rattle.std.proofs.Common.{List, None, Option, Some, [], ap, refl, suc, sym, zero, ℕ, ◌+◌, ◌∷◌, ◌≡◌}
use Rattle.protocol.specs.of_event_log.Entries.{Fault, RetriesUsed}
use Rattle.meaning.specs.Births.{same_id}
use Rattle.meaning.specs.Values.{Id, results_of}
use Rattle.protocol.specs.Asking.{answers_faulted, answers_faulted_by, answers_gone, breaks, faults_if_waiting, next_attempt, requests, resolves, resolves_used}
use Rattle.protocol.specs.Asking.{resolves_used_by, rests, tells_gone}
use Rattle.protocol.specs.Holders.{adds_holder, awaits_hold_by, hold_ack_by, hold_ack_reached, hold_reached, hold_reached_by, holding, holds_id, holds_ids}
use Rattle.protocol.specs.Holders.{sends_hold, unheld_by, unhold_reached, with_holding, without_holding}
use Rattle.protocol.specs.Messages.{Gone, Hold, HoldAck, Reason}
use Rattle.protocol.specs.Recovery.{first_stop, gives_up, is_lost_here, members, recovers, recovers_by, recovers_if_lost, remakes, remakes_by, remakes_one}
use Rattle.protocol.specs.Sets.{fault}
use Rattle.protocol.specs.Steps.{WorkerContext, changes, each_from, each_result, is_own, own_id, object_at, own_object, says, with_run, with_task_of}
use Rattle.protocol.specs.Tables.{first_by, Holding, is_pending_task, is_waiting_for, is_wanted, knows_dead, may_try_again, Object, OwnTask, Execution, task_by}
use Rattle.protocol.specs.Tables.{with_dead_holder, with_holder, without_askers}
use Rattle.step_laws.specs.Spending.{Spends, waits_of}
use Rattle.step_laws.proofs.Spends.{faults_spends, leaves_if_free_spends, spends_if, spends_none, spends_same, spends_then, with_run_spends}

-- ---- holders

awaits_spends : (h : WorkerContext) (k : Holding) (r : Option Execution) → h.worker.run ≡ r → Spends h (awaits_hold_by h k r)
awaits_spends h k None e = spends_none
awaits_spends h k (Some run) e = with_run_spends h (record run { holds = with_holding run.holds k }) (ap waits_of e)

sends_hold_spends : (h : WorkerContext) (e o : Id) → Spends h (sends_hold h e o)
sends_hold_spends h e o =
    let g : WorkerContext = awaits_hold_by h (holding e o) h.worker.run in
    spends_then {g = g} (awaits_spends h (holding e o) h.worker.run refl) (spends_same {g = says g o.owner (Hold e o)} refl refl)

adds_holder_spends : (h : WorkerContext) (e o : Id) → Spends h (adds_holder h e o)
adds_holder_spends h e o =
    spends_if (knows_dead h.worker e.owner) (spends_same {g = changes (changes h o (with_holder e)) o (with_dead_holder e)} refl refl)
    (spends_same {g = changes h o (with_holder e)} refl refl)

holds_id_spends : (h : WorkerContext) (e o : Id) → Spends h (holds_id h e o)
holds_id_spends h e o =
    spends_if (is_own h o) (adds_holder_spends h e o)
    (spends_if (knows_dead h.worker o.owner) spends_none (sends_hold_spends h e o))

pub holds_ids_spends : (os : List Id) (h : WorkerContext) (e : Id) → Spends h (holds_ids h e os)
holds_ids_spends [] h e = spends_none
holds_ids_spends (o ∷ os) h e = spends_then (holds_id_spends h e o) (holds_ids_spends os (holds_id h e o) e)

hold_by_spends : (h : WorkerContext) (w : ℕ) (e o : Id) (x : Option Object) → Spends h (hold_reached_by h w e o x)
hold_by_spends h w e o None = spends_none
hold_by_spends h w e o (Some x) = spends_then {g = adds_holder h e o} (adds_holder_spends h e o) (spends_same {g = says (adds_holder h e o) w (HoldAck e o)} refl refl)

pub hold_spends : (h : WorkerContext) (w : ℕ) (e o : Id) → Spends h (hold_reached h w e o)
hold_spends h w e o = hold_by_spends h w e o (object_at h o)

hold_ack_by_spends : (h : WorkerContext) (e o : Id) (r : Option Execution) → h.worker.run ≡ r → Spends h (hold_ack_by h (holding e o) r)
hold_ack_by_spends h e o None q = spends_none
hold_ack_by_spends h e o (Some run) q =
    let g : WorkerContext = with_run h (record run { holds = without_holding run.holds (holding e o) }) in
    spends_then {g = g} (spends_same refl (sym (ap waits_of q))) (leaves_if_free_spends g)

pub hold_ack_spends : (h : WorkerContext) (e o : Id) → Spends h (hold_ack_reached h e o)
hold_ack_spends h e o = hold_ack_by_spends h e o h.worker.run refl

pub unhold_spends : (h : WorkerContext) (e o : Id) (why : Reason) → Spends h (unhold_reached h e o why)
unhold_spends h e o why = spends_if (is_own h o) (spends_same {g = changes h o (unheld_by why e)} refl refl) spends_none

-- ---- faults and asks

pub faults_if_waiting_spends : (h : WorkerContext) (o : Id) (f : Fault) → Spends h (faults_if_waiting h o f)
faults_if_waiting_spends h o f = spends_if (is_waiting_for h.worker o) (faults_spends h f) spends_none

pub tells_gone_spends : (ws : List ℕ) (h : WorkerContext) (o : Id) (f : Fault) → Spends h (tells_gone h ws o f)
tells_gone_spends [] h o f = spends_none
tells_gone_spends (w ∷ ws) h o f = spends_then {g = says h w (Gone o f)} (spends_same refl refl) (tells_gone_spends ws (says h w (Gone o f)) o f)

answers_gone_spends : (h : WorkerContext) (o : Id) (x : Object) (f : Option Fault) → Spends h (answers_gone h o x f)
answers_gone_spends h o x None = spends_none
answers_gone_spends h o x (Some f) =
    let k : WorkerContext = changes h o without_askers in
    spends_then {g = k} (spends_same refl refl) (spends_then (tells_gone_spends x.askers k o f) (faults_if_waiting_spends (tells_gone k x.askers o f) o f))

answers_faulted_by_spends : (h : WorkerContext) (o : Id) (x : Option Object) → Spends h (answers_faulted_by h o x)
answers_faulted_by_spends h o None = spends_none
answers_faulted_by_spends h o (Some x) = answers_gone_spends h o x x.fault

pub answers_faulted_spends : (h : WorkerContext) (o : Id) → Spends h (answers_faulted h o)
answers_faulted_spends h o = answers_faulted_by_spends h o (object_at h o)

pub resolves_spends : (h : WorkerContext) (o : Id) (f : Fault) → Spends h (resolves h o f)
resolves_spends h o f = spends_same {g = resolves h o f} refl refl

-- ---- the objects of a task, one after the other

pub each_from_spends : (f : WorkerContext → ℕ → WorkerContext) → ((h : WorkerContext) (k : ℕ) → Spends h (f h k)) → (n : ℕ) (h : WorkerContext) (k : ℕ) → Spends h (each_from f h k n)
each_from_spends f each zero h k = spends_none
each_from_spends f each (suc n) h k = spends_then (each h k) (each_from_spends f each n (f h k) (k + 1))

pub each_result_spends : (f : WorkerContext → Id → WorkerContext) → ((h : WorkerContext) (o : Id) → Spends h (f h o)) → (h : WorkerContext) (o : Id) (task : OwnTask) →
    Spends h (each_result f h o task)
each_result_spends f each h o task = each_from_spends (λ g k. f g (own_id g k)) (λ g k. each g (own_id g k)) (results_of task.spec) h o.serial

resolves_used_by_spends : (h : WorkerContext) (o : Id) (x : Option Object) → Spends h (resolves_used_by h o x)
resolves_used_by_spends h o None = spends_none
resolves_used_by_spends h o (Some x) = spends_if (is_wanted x) (resolves_spends h o (fault RetriesUsed o)) spends_none

pub breaks_spends : (h : WorkerContext) (o : Id) (task : OwnTask) → Spends h (breaks h o task)
breaks_spends h o task =
    let k : WorkerContext = with_task_of h o (rests task) in
    let g : WorkerContext = each_result resolves_used k o task in
    spends_if (may_try_again task) (spends_same {g = requests h o (next_attempt task)} refl refl)
    (spends_then {g = g} (spends_then {g = k} (spends_same refl refl)
    (each_result_spends resolves_used (λ x p. resolves_used_by_spends x p (object_at x p)) k o task))
    (each_result_spends answers_faulted answers_faulted_spends g o task))

-- ---- objects that are made again

remakes_by_spends : (h : WorkerContext) (k : ℕ) (r : Option OwnTask) → Spends h (remakes_by h k r)
remakes_by_spends h k None = spends_none
remakes_by_spends h k (Some task) = spends_if (is_pending_task task) spends_none (spends_same {g = requests h (own_id h k) (next_attempt task)} refl refl)

remakes_one_spends : (h : WorkerContext) (k : ℕ) (x : Option Object) → Spends h (remakes_one h k x)
remakes_one_spends h k None = spends_none
remakes_one_spends h k (Some x) = remakes_by_spends h (first_by k x.source) (task_by h.worker.objects x.source)

remakes_spends : (ks : List ℕ) (h : WorkerContext) → Spends h (remakes h ks)
remakes_spends [] h = spends_none
remakes_spends (k ∷ ks) h = spends_then (remakes_one_spends h k (own_object h k)) (remakes_spends ks (remakes_one h k (own_object h k)))

gives_up_spends : (h : WorkerContext) (o : Id) (f : Fault) → Spends h (gives_up h o f)
gives_up_spends h o f =
    let g : WorkerContext = resolves h o f in
    let k : WorkerContext = resolves (resolves h f.object f) o f in
    spends_if (same_id f.object o) (spends_then {g = g} (resolves_spends h o f) (answers_faulted_spends g o))
    (spends_then {g = k} (spends_then (resolves_spends h f.object f) (resolves_spends (resolves h f.object f) o f))
    (spends_then (answers_faulted_spends k f.object) (answers_faulted_spends (answers_faulted k f.object) o)))

recovers_by_spends : (h : WorkerContext) (o : Id) (ks : List ℕ) (r : Option Fault) → Spends h (recovers_by h o ks r)
recovers_by_spends h o ks None = remakes_spends ks h
recovers_by_spends h o ks (Some f) = gives_up_spends h o f

pub recovers_spends : (h : WorkerContext) (o : Id) → Spends h (recovers h o)
recovers_spends h o = recovers_by_spends h o (members h o.serial) (first_stop h (members h o.serial))

pub recovers_if_lost_spends : (h : WorkerContext) (o : Id) → Spends h (recovers_if_lost h o)
recovers_if_lost_spends h o = spends_if (is_lost_here h o) (recovers_spends h o) spends_none
