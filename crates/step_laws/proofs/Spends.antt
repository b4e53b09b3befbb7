-- What may yet be opened, step by step: slots, and the worker's own attempt.
use Rattle.std.proofs.Common.{◌≡◌, ◌≤◌, ℕ, zero, suc, ◌+◌, Bool, true, false, Option, Some, None, refl, sym, ◌∙◌, ap, arith}
use Rattle.std.specs.Prelude.{if◌then◌else◌}
use Rattle.meaning.specs.Values.{Outcome}
use Rattle.protocol.specs.of_event_log.Entries.{Fault}
use Rattle.protocol.specs.of_event_log.Entries as logged
use Rattle.protocol.specs.Nodes.{NodeContext}
use Rattle.protocol.specs.Slots.{frees}
use Rattle.protocol.specs.Tables.{Fetching, Phase, Ready, Out, Waits, HasEnded, HasFaulted, Execution}
use Rattle.protocol.specs.Steps.{WorkerContext, each_from, logs, with_phase, with_run}
use Rattle.protocol.specs.Runs.{asks_for_slot, faults, faults_at, faults_by, gets, gets_at, gets_by, gives_slot_back, is_heard, leaves, leaves_by}
use Rattle.protocol.specs.Runs.{leaves_if_free, tells, tells_stop, with_answer, with_fetching, with_fetching_at, with_fetching_by}
use Rattle.step_laws.specs.Opens.{free_opens, one_if}
use Rattle.step_laws.proofs.Openings.{ask_slot_opens_none, free_open}
use Rattle.step_laws.specs.Spending.{Spends, may_open, waits_in, waits_of}

same_least : (a b c d : ℕ) → a ≡ c → b ≡ d → a + b ≤ c + d
same_least a b c d e f = omega (arith, e, f)

then_least : (a b c : ℕ) → b ≤ a → c ≤ b → c ≤ a
then_least a b c x y = omega (arith, x, y)

less_least : (a b c d : ℕ) → a ≡ c → b ≡ 0 → a + b ≤ c + d
less_least a b c d e f = omega (arith, e, f)

one_least : (a b c d : ℕ) → a ≤ c + 1 → b ≡ 0 → d ≡ 1 → a + b ≤ c + d
one_least a b c d l e f = omega (arith, l, e, f)

least_self : (a : ℕ) → a ≤ a
least_self a = omega arith

-- the slots and the attempt are as they were
pub spends_same : {h g : WorkerContext} → g.there.opened ≡ h.there.opened → waits_of g.worker.run ≡ waits_of h.worker.run → Spends h g
spends_same {h} {g} e w = record { least = same_least g.there.opened (waits_of g.worker.run) h.there.opened (waits_of h.worker.run) e w }

-- the attempt doesn't wait any more
pub spends_less : {h g : WorkerContext} → g.there.opened ≡ h.there.opened → waits_of g.worker.run ≡ 0 → Spends h g
spends_less {h} {g} e w = record { least = less_least g.there.opened (waits_of g.worker.run) h.there.opened (waits_of h.worker.run) e w }

pub spends_none : {h : WorkerContext} → Spends h h
spends_none {h} = record { least = least_self (may_open h) }

pub spends_then : {h g k : WorkerContext} → Spends h g → Spends g k → Spends h k
spends_then {h} {g} {k} a b = record { least = then_least (may_open h) (may_open g) (may_open k) a.least b.least }

pub spends_if : {h g k : WorkerContext} (b : Bool) → Spends h g → Spends h k → Spends h (if b then g else k)
spends_if true x y = x
spends_if false x y = y

-- a step for each number
pub each_spends : (f : WorkerContext → ℕ → WorkerContext) → ((h : WorkerContext) (k : ℕ) → Spends h (f h k)) → (n : ℕ) (h : WorkerContext) (k : ℕ) → Spends h (each_from f h k n)
each_spends f step zero h k = spends_none
each_spends f step (suc n) h k = spends_then (step h k) (each_spends f step n (f h k) (k + 1))

-- ---- slots

one_most : (a b : ℕ) (c : Bool) → a ≡ b + one_if c → a ≤ b + 1
one_most a b true e = omega (arith, e)
one_most a b false e = omega (arith, e)

pub frees_most : (t : NodeContext) (w : ℕ) → (frees t w).opened ≤ t.opened + 1
frees_most t w = one_most (frees t w).opened t.opened (free_opens t.node.scheduler w) (free_open t w)

-- an attempt that waited gives its slot back
stopped_spends : (h k : WorkerContext) → k.there.opened ≡ h.there.opened → waits_of k.worker.run ≡ 0 → waits_of h.worker.run ≡ 1 → Spends h (gives_slot_back k)
stopped_spends h k e f g =
    let l : (frees k.there k.me).opened ≤ k.there.opened + 1 = frees_most k.there k.me in
    let m : (frees k.there k.me).opened ≤ h.there.opened + 1 = omega (arith, l, e) in
    record { least = one_least (frees k.there k.me).opened (waits_of k.worker.run) h.there.opened (waits_of h.worker.run) m f g }

asks_for_slot_spends : (h k : WorkerContext) → k.there.opened ≡ h.there.opened → waits_of k.worker.run ≡ 0 → Spends h (asks_for_slot k)
asks_for_slot_spends h k e w = spends_less (ask_slot_opens_none k.there k.me ∙ e) w

-- ---- an attempt that stops is over

pub tells_stop_spends : (h : WorkerContext) (run : Execution) (p : Phase) → Spends h (tells_stop h run p)
tells_stop_spends h run (HasEnded c) = spends_same refl refl
tells_stop_spends h run (HasFaulted f) = spends_same refl refl
tells_stop_spends h run Ready = spends_none
tells_stop_spends h run (Out j) = spends_none
tells_stop_spends h run (Waits y f) = spends_none

tells_stop_waits : (h : WorkerContext) (run : Execution) (p : Phase) → waits_of (tells_stop h run p).worker.run ≡ waits_of h.worker.run
tells_stop_waits h run (HasEnded c) = refl
tells_stop_waits h run (HasFaulted f) = refl
tells_stop_waits h run Ready = refl
tells_stop_waits h run (Out j) = refl
tells_stop_waits h run (Waits y f) = refl

-- the attempt is changed, but waits as before
pub with_run_spends : (h : WorkerContext) (run : Execution) → waits_of h.worker.run ≡ waits_in run.phase → Spends h (with_run h run)
with_run_spends h run e = spends_same refl (sym e)

pub is_heard_spends : (h : WorkerContext) (run : Execution) → waits_of h.worker.run ≡ waits_in run.phase → Spends h (is_heard h run)
is_heard_spends h run e = spends_same refl (sym e)

tells_spends : (h : WorkerContext) (run : Execution) → waits_of h.worker.run ≡ waits_in run.phase → Spends h (tells h run)
tells_spends h run e = spends_then (with_run_spends h run e) (tells_stop_spends (with_run h run) run run.phase)

leaves_spends : (h : WorkerContext) (run : Execution) → waits_of h.worker.run ≡ waits_in run.phase → Spends h (leaves h run)
leaves_spends h run e =
    spends_if _ (with_run_spends h (record run { is_acknowledged = true }) e)
    (spends_if _ (spends_then (tells_spends h run e) (is_heard_spends (tells h run) run (tells_stop_waits (with_run h run) run run.phase)))
    (tells_spends h run e))

leaves_by_spends : (h : WorkerContext) (r : Option Execution) → h.worker.run ≡ r → Spends h (leaves_by h r)
leaves_by_spends h None e = spends_none
leaves_by_spends h (Some run) e = spends_if _ (leaves_spends h (record run { is_over = true }) (ap waits_of e)) spends_none

pub leaves_if_free_spends : (h : WorkerContext) → Spends h (leaves_if_free h)
leaves_if_free_spends h = leaves_by_spends h h.worker.run refl

-- ---- answers

faults_at_spends : (h : WorkerContext) (run : Execution) (f : Fault) (p : Phase) → waits_of h.worker.run ≡ waits_in p → Spends h (faults_at h run f p)
faults_at_spends h run f (Waits y g) e =
    let k : WorkerContext = logs (with_phase h run (HasFaulted f)) (logged.Faulted run.attempt y f) in
    spends_then (stopped_spends h k refl refl e) (leaves_if_free_spends (gives_slot_back k))
faults_at_spends h run f Ready e = spends_none
faults_at_spends h run f (Out j) e = spends_none
faults_at_spends h run f (HasEnded c) e = spends_none
faults_at_spends h run f (HasFaulted g) e = spends_none

faults_by_spends : (h : WorkerContext) (f : Fault) (r : Option Execution) → h.worker.run ≡ r → Spends h (faults_by h f r)
faults_by_spends h f None e = spends_none
faults_by_spends h f (Some run) e = faults_at_spends h run f run.phase (ap waits_of e)

pub faults_spends : (h : WorkerContext) (f : Fault) → Spends h (faults h f)
faults_spends h f = faults_by_spends h f h.worker.run refl

gets_at_spends : (h : WorkerContext) (run : Execution) (c : Outcome) (p : Phase) → Spends h (gets_at h run c p)
gets_at_spends h run c (Waits y f) = asks_for_slot_spends h (logs (with_run h (with_answer run c)) (logged.Got run.attempt y c)) refl refl
gets_at_spends h run c Ready = spends_none
gets_at_spends h run c (Out j) = spends_none
gets_at_spends h run c (HasEnded d) = spends_none
gets_at_spends h run c (HasFaulted g) = spends_none

gets_by_spends : (h : WorkerContext) (c : Outcome) (r : Option Execution) → Spends h (gets_by h c r)
gets_by_spends h c None = spends_none
gets_by_spends h c (Some run) = gets_at_spends h run c run.phase

pub gets_spends : (h : WorkerContext) (c : Outcome) → Spends h (gets h c)
gets_spends h c = gets_by_spends h c h.worker.run

-- ---- fetches

fetching_at_spends : (h : WorkerContext) (run : Execution) (f : Option Fetching) (p : Phase) → waits_of h.worker.run ≡ waits_in p → Spends h (with_fetching_at h run f p)
fetching_at_spends h run f (Waits y g) e = spends_same refl (sym e)
fetching_at_spends h run f Ready e = spends_none
fetching_at_spends h run f (Out j) e = spends_none
fetching_at_spends h run f (HasEnded c) e = spends_none
fetching_at_spends h run f (HasFaulted g) e = spends_none

fetching_by_spends : (h : WorkerContext) (f : Option Fetching) (r : Option Execution) → h.worker.run ≡ r → Spends h (with_fetching_by h f r)
fetching_by_spends h f None e = spends_none
fetching_by_spends h f (Some run) e = fetching_at_spends h run f run.phase (ap waits_of e)

pub fetching_spends : (h : WorkerContext) (f : Option Fetching) → Spends h (with_fetching h f)
fetching_spends h f = fetching_by_spends h f h.worker.run refl
