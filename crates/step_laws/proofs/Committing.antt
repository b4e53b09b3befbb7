-- A commit opens one worker at most.
use Rattle.std.proofs.Common.{Bool, List, None, Option, Some, [], arith, false, refl, true, ℕ, ◌+◌, ◌∷◌, ◌≡◌, ◌≤◌}
use Rattle.std.specs.Prelude.{if◌then◌else◌}
use Rattle.protocol.specs.of_event_log.Commits.{commit_entries}
use Rattle.protocol.specs.of_event_log.Entries.{Attempt, OwnerDied}
use Rattle.protocol.specs.of_event_log.Holding.{ids_of_birth}
use Rattle.meaning.specs.Runs.{next_id}
use Rattle.meaning.specs.Values.{Birth, Id, Outcome, Put, Task, Val}
use Rattle.protocol.specs.Commits.{asks_where, bears, bears_all, bears_as, commit_by, commit_step, ends, keeps_content, keeps_contents, needs, next_id_here}
use Rattle.protocol.specs.Commits.{stops_by, task_objects, with_objects, with_outcomes}
use Rattle.protocol.specs.Holders.{holds_ids, passes_on}
use Rattle.protocol.specs.Jobs.{AtEnd, AtGet, Outcomes, Stopped, stop_of}
use Rattle.protocol.specs.Messages.{Where}
use Rattle.protocol.specs.Runs.{gives_slot_back, leaves_if_free}
use Rattle.protocol.specs.Sets.{fault}
use Rattle.protocol.specs.Slots.{frees}
use Rattle.protocol.specs.Steps.{WorkerContext, is_own, logs_all, says, store_here, with_phase, with_run, with_store}
use Rattle.protocol.specs.Stores.{with_ended, with_primary}
use Rattle.protocol.specs.Tables.{HasEnded, HasFaulted, is_same_id, is_waiting_for, knows_dead, needed_by, new_task, object_needed, Out, Phase, put_object}
use Rattle.protocol.specs.Tables.{Ready, Execution, Waits}
use Rattle.protocol.specs.of_values.Listed.{each_once, ids_in_outcome}
use Rattle.step_laws.specs.Spending.{Spends, may_open, waits_in, waits_of}
use Rattle.step_laws.proofs.Spends.{faults_spends, frees_most, leaves_if_free_spends, spends_if, spends_none, spends_same, spends_then}
use Rattle.step_laws.proofs.Asks.{each_result_spends, holds_ids_spends}
use Rattle.step_laws.proofs.Contents.{needs_own_spends}

without_one : (a b n : ℕ) → a + b ≤ n + 1 → b ≡ 1 → a ≤ n
without_one a b n l e = omega (arith, l, e)

without_any : (a b n : ℕ) → a + b ≤ n → a ≤ n
without_any a b n l = omega (arith, l)

no_more : (a b n : ℕ) → a + b ≤ n + 0 → a ≤ n
no_more a b n l = omega (arith, l)

one_over : (n : ℕ) → n ≤ n + 1
one_over n = omega arith

one_after : (k n m : ℕ) → k ≤ n → m ≤ k + 1 → m ≤ n + 1
one_after k n m l u = omega (arith, l, u)

-- ---- births

bears_as_spends : (h : WorkerContext) (a : Attempt) (o : Id) (b : Birth) (ids : List Id) → Spends h (bears_as h a o b ids)
bears_as_spends h a o (Put v) ids =
    let g : WorkerContext = with_store (with_objects h (put_object a ids h.worker.node ∷ [])) (with_primary (store_here h) o 0 (Val v)) in
    spends_then {g = g} (spends_same refl refl) (holds_ids_spends ids g o)
bears_as_spends h a o (Task g args depth retries others) ids =
    let spec : Birth = Task g args depth retries others in
    let x : WorkerContext = with_objects h (task_objects a o.serial spec others ids) in
    spends_then {g = x} (spends_same refl refl)
    (spends_then (each_result_spends (λ y e. holds_ids y e ids) (λ y e. holds_ids_spends ids y e) x o (new_task spec)) (spends_same refl refl))

bears_all_spends : (bs : List Birth) (h : WorkerContext) (a : Attempt) → Spends h (bears_all h a bs)
bears_all_spends [] h a = spends_none
bears_all_spends (b ∷ bs) h a = spends_then (bears_as_spends h a (next_id_here h) b (each_once (ids_of_birth b))) (bears_all_spends bs (bears h a b) a)

asks_where_spends : (h : WorkerContext) (y : Id) → Spends h (asks_where h y)
asks_where_spends h y =
    spends_if (is_own h y) (needs_own_spends h y)
    (spends_if (knows_dead h.worker y.owner) (faults_spends h (fault OwnerDied y)) (spends_same {g = says h y.owner (Where y)} refl refl))

-- ---- stops

waiting_by : (r : Option Execution) (y : Id) → is_same_id (needed_by r) y ≡ true → waits_of r ≡ 1
waiting_by None y e = absurd cc
waiting_by (Some run) y e = waiting_in run.phase y e
  where
    waiting_in : (p : Phase) (o : Id) → is_same_id (object_needed p) o ≡ true → waits_in p ≡ 1
    waiting_in (Waits z f) o i = refl
    waiting_in Ready o i = absurd cc
    waiting_in (Out j) o i = absurd cc
    waiting_in (HasEnded c) o i = absurd cc
    waiting_in (HasFaulted f) o i = absurd cc

-- a slot that is given back opens one worker more at most
back_opens : (h : WorkerContext) (n : ℕ) → h.there.opened ≤ n → (gives_slot_back h).there.opened ≤ n + 1
back_opens h n l = let m : (frees h.there h.me).opened ≤ h.there.opened + 1 = frees_most h.there h.me in omega (arith, l, m)

rests_by : (h : WorkerContext) (n : ℕ) (b : Bool) → may_open h ≤ n + 1 → (b ≡ true → waits_of h.worker.run ≡ 1)
    → (if b then gives_slot_back h else h).there.opened ≤ n + 1
rests_by h n true l w =
    let o : ℕ = h.there.opened in
    let e : waits_of h.worker.run ≡ 1 = w refl in
    back_opens h n (without_one h.there.opened (waits_of h.worker.run) n l e)
rests_by h n false l w = without_any h.there.opened (waits_of h.worker.run) (n + 1) l

needs_opens : (h : WorkerContext) (run : Execution) (y : Id) → (needs h run y).there.opened ≤ h.there.opened + 1
needs_opens h run y =
    let g : WorkerContext = with_phase h run (Waits y None) in
    let a : WorkerContext = asks_where g y in
    rests_by a h.there.opened (is_waiting_for a.worker y) (asks_where_spends g y).least (λ e. waiting_by a.worker.run y e)

keeps_contents_spends : (cs : List Outcome) (h : WorkerContext) (o : Id) (number : ℕ) → Spends h (keeps_contents h o number cs)
keeps_contents_spends [] h o number = spends_none
keeps_contents_spends (c ∷ cs) h o number =
    let ids : List Id = each_once (ids_in_outcome c) in
    let g : WorkerContext = passes_on (with_store h (with_ended (store_here h) o number c)) o ids in
    spends_then (spends_then {g = g} (spends_same refl refl) (holds_ids_spends ids g o)) (keeps_contents_spends cs (keeps_content h o number c) (next_id o) number)

ends_opens : (h : WorkerContext) (run : Execution) (cs : List Outcome) → (ends h run cs).there.opened ≤ h.there.opened + 1
ends_opens h run cs =
    let g : WorkerContext = with_phase h run (HasEnded cs) in
    let k : WorkerContext = keeps_contents g run.attempt.object run.attempt.number cs in
    let l : WorkerContext = leaves_if_free k in
    let s : Spends g l = spends_then {g = k} (keeps_contents_spends cs g run.attempt.object run.attempt.number) (leaves_if_free_spends k) in
    back_opens l h.there.opened (no_more l.there.opened (waits_of l.worker.run) h.there.opened s.least)

stops_by_opens : (h : WorkerContext) (stop : Stopped) (r : Option Execution) → (stops_by h stop r).there.opened ≤ h.there.opened + 1
stops_by_opens h stop None = one_over h.there.opened
stops_by_opens h (AtGet y) (Some run) = needs_opens h run y
stops_by_opens h (AtEnd cs) (Some run) = ends_opens h run cs

-- ---- the commit

abbrev logged_here : WorkerContext → Execution → Outcomes → WorkerContext
logged_here h run d = logs_all (with_run h (with_outcomes run d)) (commit_entries run.attempt (next_id_here h) d.births d.prints (stop_of d.stop))

commit_by_opens : (h : WorkerContext) (d : Outcomes) (r : Option Execution) → (commit_by h d r).there.opened ≤ h.there.opened + 1
commit_by_opens h d None = one_over h.there.opened
commit_by_opens h d (Some run) =
    let k : WorkerContext = bears_all (logged_here h run d) run.attempt d.births in
    let s : Spends (logged_here h run d) k = bears_all_spends d.births (logged_here h run d) run.attempt in
    one_after k.there.opened h.there.opened (stops_by k d.stop k.worker.run).there.opened
    (no_more k.there.opened (waits_of k.worker.run) h.there.opened s.least) (stops_by_opens k d.stop k.worker.run)

-- a commit opens one worker at most
pub commit_opens : (h : WorkerContext) (d : Outcomes) → (commit_step h d).there.opened ≤ h.there.opened + 1
commit_opens h d = commit_by_opens h d h.worker.run
