-- Asks that are answered, deaths that are told, and ticks.
use Rattle.std.proofs.Common.{Bool, List, None, Option, Some, [], ap, length, refl, sym, ℕ, ◌∷◌, ◌≡◌}
use Rattle.std.specs.List.{filter}
use Rattle.std.specs.Prelude.{if◌then◌else◌, not, ◌&&◌, ◌==◌}
use Rattle.protocol.specs.of_event_log.Entries.{Attempt, OwnerDied}
use Rattle.meaning.specs.Values.{Id}
use Rattle.protocol.specs.Asking.{asks_next, begins, elsewhere_by, elsewhere_reached, given_by, given_reached, if_asked, pushes, with_begun}
use Rattle.protocol.specs.Holders.{collects, drops_dead, drops_dead_by, drops_holders, first_born_first, lets_go_of_dead}
use Rattle.protocol.specs.Messages.{Hold, OwnerIsDead, TheNode, Unhold, Where}
use Rattle.protocol.specs.Notices.{breaks_if, breaks_where, drops_holds, drops_holds_by, drops_stop, drops_stop_by, is_unheard, loses_fetch_at, loses_fetch_by}
use Rattle.protocol.specs.Notices.{loses_fetch_of, loses_owner, loses_owner_of, loses_locations, moves_ask, moves_ask_at, moves_asks, notice_node_step}
use Rattle.protocol.specs.Notices.{notice_step, runs_on_node, runs_on_worker, with_dead_node, with_dead_worker}
use Rattle.protocol.specs.Sets.{fault, has}
use Rattle.protocol.specs.Steps.{WorkerContext, changes, is_own, object_at, own_id, own_object, says, with_run}
use Rattle.protocol.specs.Tables.{AskedAt, AtRest, Fetching, HasEnded, HasFaulted, holders_of, Holding, knows_dead, needed_by, Object, Out, owner_of, OwnTask}
use Rattle.protocol.specs.Tables.{Phase, Progress, Ready, Execution, RunsOn, task_of, Waits, with_dead_holder}
use Rattle.protocol.specs.Ticks.{asks_again, asks_location_again, sends_holds, sends_run, sends_stop, sends_task, sends_task_at, sends_tasks, tick_step}
use Rattle.step_laws.specs.Spending.{Spends, waits_of}
use Rattle.step_laws.proofs.Spends.{each_spends, faults_spends, is_heard_spends, leaves_if_free_spends, spends_if, spends_none, spends_same, spends_then}
use Rattle.step_laws.proofs.Spends.{tells_stop_spends}
use Rattle.step_laws.proofs.Asks.{breaks_spends}
use Rattle.step_laws.proofs.Contents.{missing_spends}

pushes_spends : (h : WorkerContext) (o : Id) (task : OwnTask) (w : ℕ) → Spends h (pushes h o task w)
pushes_spends h o task w = spends_same {g = pushes h o task w} refl refl

begins_spends : (h : WorkerContext) (o : Id) (task : OwnTask) (w n : ℕ) → Spends h (begins h o task w n)
begins_spends h o task w n =
    let next : OwnTask = with_begun task w n in
    spends_if (knows_dead h.worker w) (spends_then (pushes_spends h o next w) (breaks_spends (pushes h o next w) o next)) (pushes_spends h o next w)

given_by_spends : (h : WorkerContext) (a : Attempt) (t w n : ℕ) (r : Option OwnTask) → Spends h (given_by h a t w n r)
given_by_spends h a t w n None = spends_none
given_by_spends h a t w n (Some task) = spends_if (if_asked t a task) (begins_spends h a.object task w n) spends_none

pub given_spends : (h : WorkerContext) (n : ℕ) (a : Attempt) (t w : ℕ) → Spends h (given_reached h n a t w)
given_spends h n a t w = given_by_spends h a t w n (task_of (object_at h a.object))

elsewhere_by_spends : (h : WorkerContext) (a : Attempt) (t n : ℕ) (r : Option OwnTask) → Spends h (elsewhere_by h a t n r)
elsewhere_by_spends h a t n None = spends_none
elsewhere_by_spends h a t n (Some task) = spends_if (if_asked t a task) (spends_same {g = asks_next h a.object task t n} refl refl) spends_none

pub elsewhere_spends : (h : WorkerContext) (a : Attempt) (t n : ℕ) → Spends h (elsewhere_reached h a t n)
elsewhere_spends h a t n = elsewhere_by_spends h a t n (task_of (object_at h a.object))

pub breaks_if_spends : (test : Progress → Bool) (h : WorkerContext) (k : ℕ) (r : Option OwnTask) → Spends h (breaks_if test h k r)
breaks_if_spends test h k None = spends_none
breaks_if_spends test h k (Some task) = spends_if (test task.progress) (breaks_spends h (own_id h k) task) spends_none

pub breaks_where_spends : (test : Progress → Bool) (h : WorkerContext) → Spends h (breaks_where test h)
breaks_where_spends test h =
    each_spends (λ g k. breaks_if test g k (task_of (own_object g k))) (λ g k. breaks_if_spends test g k (task_of (own_object g k)))
    (length h.worker.objects) h 1

loses_owner_of_spends : (h : WorkerContext) (v : ℕ) (y : Option Id) → Spends h (loses_owner_of h v y)
loses_owner_of_spends h v None = spends_none
loses_owner_of_spends h v (Some y) = spends_if (y.owner == v) (faults_spends h (fault OwnerDied y)) spends_none

pub loses_owner_spends : (h : WorkerContext) (v : ℕ) → Spends h (loses_owner h v)
loses_owner_spends h v = loses_owner_of_spends h v (needed_by h.worker.run)

drops_holds_by_spends : (h : WorkerContext) (v : ℕ) (r : Option Execution) → h.worker.run ≡ r → Spends h (drops_holds_by h v r)
drops_holds_by_spends h v None e = spends_none
drops_holds_by_spends h v (Some run) e =
    let g : WorkerContext = with_run h (record run { holds = filter (λ k. not (k.object.owner == v)) run.holds }) in
    spends_then {g = g} (spends_same refl (sym (ap waits_of e))) (leaves_if_free_spends g)

pub drops_holds_spends : (h : WorkerContext) (v : ℕ) → Spends h (drops_holds h v)
drops_holds_spends h v = drops_holds_by_spends h v h.worker.run refl

drops_stop_by_spends : (h : WorkerContext) (v : ℕ) (r : Option Execution) → h.worker.run ≡ r → Spends h (drops_stop_by h v r)
drops_stop_by_spends h v None e = spends_none
drops_stop_by_spends h v (Some run) e = spends_if (is_unheard run && (owner_of run == v)) (is_heard_spends h run (ap waits_of e)) spends_none

pub drops_stop_spends : (h : WorkerContext) (v : ℕ) → Spends h (drops_stop h v)
drops_stop_spends h v = drops_stop_by_spends h v h.worker.run refl

drops_holders_spends : (es : List Id) (h : WorkerContext) (o : Id) → Spends h (drops_holders h o es)
drops_holders_spends [] h o = spends_none
drops_holders_spends (e ∷ es) h o = let g : WorkerContext = changes h o (with_dead_holder e) in spends_then {g = g} (spends_same refl refl) (drops_holders_spends es g o)

drops_dead_by_spends : (h : WorkerContext) (v : ℕ) (o : Id) (x : Option Object) → Spends h (drops_dead_by h v o x)
drops_dead_by_spends h v o None = spends_none
drops_dead_by_spends h v o (Some x) = drops_holders_spends (first_born_first (holders_of v x)) h o

lets_go_of_dead_spends : (v : ℕ) (ks : List Holding) (h : WorkerContext) → Spends h (lets_go_of_dead h v ks)
lets_go_of_dead_spends v [] h = spends_none
lets_go_of_dead_spends v (k ∷ ks) h =
    let g : WorkerContext = says h k.object.owner (Unhold k.holder k.object OwnerIsDead) in
    spends_then (spends_if (k.holder.owner == v) (spends_same {g = g} refl refl) spends_none) (lets_go_of_dead_spends v ks (if k.holder.owner == v then g else h))

collects_spends : (h : WorkerContext) (v : ℕ) → Spends h (collects h v)
collects_spends h v =
    spends_then {g = drops_dead h v} (each_spends (λ g k. drops_dead_by g v (own_id g k) (own_object g k)) (λ g k. drops_dead_by_spends g v (own_id g k) (own_object g k)) (length h.worker.objects) h 1)
    (lets_go_of_dead_spends v h.worker.passed_on (drops_dead h v))

pub notice_spends : (h : WorkerContext) (v : ℕ) → Spends h (notice_step h v)
notice_spends h v =
    let a : WorkerContext = with_dead_worker h v in
    let b : WorkerContext = breaks_where (runs_on_worker v) a in
    let c : WorkerContext = loses_owner b v in
    spends_if (knows_dead h.worker v) spends_none
    (spends_then {g = a} (spends_same refl refl)
    (spends_then (breaks_where_spends (runs_on_worker v) a)
    (spends_then (loses_owner_spends b v) (spends_then (drops_holds_spends c v)
    (spends_then (drops_stop_spends (drops_holds c v) v) (collects_spends (drops_stop (drops_holds c v) v) v))))))

-- ---- nodes that are dead

moves_ask_at_spends : (h : WorkerContext) (m : ℕ) (o : Id) (task : OwnTask) (p : Progress) → Spends h (moves_ask_at h m o task p)
moves_ask_at_spends h m o task (AskedAt t n) = spends_if (n == m) (spends_same {g = asks_next h o task t m} refl refl) spends_none
moves_ask_at_spends h m o task AtRest = spends_none
moves_ask_at_spends h m o task (RunsOn w n) = spends_none

moves_ask_spends : (h : WorkerContext) (m k : ℕ) (r : Option OwnTask) → Spends h (moves_ask h m k r)
moves_ask_spends h m k None = spends_none
moves_ask_spends h m k (Some task) = moves_ask_at_spends h m (own_id h k) task task.progress

moves_asks_spends : (h : WorkerContext) (m : ℕ) → Spends h (moves_asks h m)
moves_asks_spends h m =
    each_spends (λ g k. moves_ask g m k (task_of (own_object g k))) (λ g k. moves_ask_spends g m k (task_of (own_object g k))) (length h.worker.objects) h 1

loses_fetch_by_spends : (h : WorkerContext) (m : ℕ) (y : Id) (f : Option Fetching) → Spends h (loses_fetch_by h m y f)
loses_fetch_by_spends h m y None = spends_none
loses_fetch_by_spends h m y (Some f) = spends_if (f.node == m) (missing_spends h (TheNode m) y f.number m) spends_none

loses_fetch_at_spends : (h : WorkerContext) (m : ℕ) (p : Phase) → Spends h (loses_fetch_at h m p)
loses_fetch_at_spends h m (Waits y f) = loses_fetch_by_spends h m y f
loses_fetch_at_spends h m Ready = spends_none
loses_fetch_at_spends h m (Out j) = spends_none
loses_fetch_at_spends h m (HasEnded c) = spends_none
loses_fetch_at_spends h m (HasFaulted g) = spends_none

loses_fetch_of_spends : (h : WorkerContext) (m : ℕ) (r : Option Execution) → Spends h (loses_fetch_of h m r)
loses_fetch_of_spends h m None = spends_none
loses_fetch_of_spends h m (Some run) = loses_fetch_at_spends h m run.phase

pub notice_node_spends : (h : WorkerContext) (m : ℕ) → Spends h (notice_node_step h m)
notice_node_spends h m =
    let a : WorkerContext = with_dead_node h m in
    let b : WorkerContext = breaks_where (runs_on_node m) a in
    let c : WorkerContext = loses_locations b m in
    let e : WorkerContext = moves_asks c m in
    spends_if (has h.worker.dead_nodes m) spends_none
    (spends_then {g = a} (spends_same refl refl)
    (spends_then {g = b} (breaks_where_spends (runs_on_node m) a)
    (spends_then {g = c} (spends_same refl refl) (spends_then {g = e} (moves_asks_spends c m) (loses_fetch_of_spends e m e.worker.run)))))

-- ---- ticks

sends_task_at_spends : (h : WorkerContext) (o : Id) (task : OwnTask) (p : Progress) → Spends h (sends_task_at h o task p)
sends_task_at_spends h o task AtRest = spends_none
sends_task_at_spends h o task (AskedAt t n) = spends_same refl refl
sends_task_at_spends h o task (RunsOn w n) = spends_same refl refl

sends_task_spends : (h : WorkerContext) (k : ℕ) (r : Option OwnTask) → Spends h (sends_task h k r)
sends_task_spends h k None = spends_none
sends_task_spends h k (Some task) = sends_task_at_spends h (own_id h k) task task.progress

sends_tasks_spends : (h : WorkerContext) → Spends h (sends_tasks h)
sends_tasks_spends h =
    each_spends (λ g k. sends_task g k (task_of (own_object g k))) (λ g k. sends_task_spends g k (task_of (own_object g k))) (length h.worker.objects) h 1

asks_location_spends : (h : WorkerContext) (y : Id) (f : Option Fetching) → Spends h (asks_location_again h y f)
asks_location_spends h y None = spends_if (is_own h y) spends_none (spends_same {g = says h y.owner (Where y)} refl refl)
asks_location_spends h y (Some f) = spends_same refl refl

asks_again_spends : (h : WorkerContext) (p : Phase) → Spends h (asks_again h p)
asks_again_spends h (Waits y f) = asks_location_spends h y f
asks_again_spends h Ready = spends_none
asks_again_spends h (Out j) = spends_none
asks_again_spends h (HasEnded c) = spends_none
asks_again_spends h (HasFaulted g) = spends_none

sends_holds_spends : (ks : List Holding) (h : WorkerContext) → Spends h (sends_holds h ks)
sends_holds_spends [] h = spends_none
sends_holds_spends (k ∷ ks) h =
    let g : WorkerContext = says h k.object.owner (Hold k.holder k.object) in spends_then {g = g} (spends_same refl refl) (sends_holds_spends ks g)

sends_stop_spends : (h : WorkerContext) (run : Execution) → Spends h (sends_stop h run)
sends_stop_spends h run = spends_if (is_unheard run) (tells_stop_spends h run run.phase) spends_none

sends_run_spends : (h : WorkerContext) (r : Option Execution) → Spends h (sends_run h r)
sends_run_spends h None = spends_none
sends_run_spends h (Some run) =
    let a : WorkerContext = asks_again h run.phase in let b : WorkerContext = sends_holds a run.holds in
    spends_then {g = a} (asks_again_spends h run.phase) (spends_then {g = b} (sends_holds_spends run.holds a) (sends_stop_spends b run))

pub tick_spends : (h : WorkerContext) → Spends h (tick_step h)
tick_spends h = spends_then (sends_tasks_spends h) (sends_run_spends (sends_tasks h) h.worker.run)
