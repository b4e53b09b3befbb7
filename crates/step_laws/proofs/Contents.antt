-- Where contents are, and how whoever waits for one is answered.
use Rattle.std.proofs.Common.{List, None, Option, Some, [], refl, suc, zero, ℕ, ◌∷◌}
use Rattle.std.specs.Prelude.{is_none, ◌&&◌, ◌==◌}
use Rattle.protocol.specs.of_event_log.Entries.{Attempt, Fault, OwnerDied}
use Rattle.meaning.specs.Values.{Id, Outcome, results_of}
use Rattle.protocol.specs.Asking.{answers_faulted, rests}
use Rattle.meaning.specs.Runs.{next_id}
use Rattle.protocol.specs.Sets.{fault, has, rest_of}
use Rattle.protocol.specs.Ends.{accepts, failed_by, failed_reached, fails, first_result, resolves_open, resolves_open_by, settles, finished_by, finished_reached, hears_of_end, if_present}
use Rattle.protocol.specs.Messages.{At, EndedResult, Gone, Endpoint, TheNode, TheWorker}
use Rattle.protocol.specs.Locations.{adds_location, adds_location_by, adds_locations, answered_here, answers_asker, answers_settled, answers_settled_by, asker_by}
use Rattle.protocol.specs.Locations.{at_answers, at_reached, copy_reached, finds_none, goes_to, gone_reached, is_present, looks_at_locations, looks_elsewhere_by}
use Rattle.protocol.specs.Locations.{looks_for, looks_for_by, looks_here_by, makes_copy_known, may_gain_location, missing_from, missing_reached, needs_at, needs_by}
use Rattle.protocol.specs.Locations.{needs_own, needs_own_if_waiting, needs_released, reports_missing, takes_location, takes_location_by, tells_locations, tells_released}
use Rattle.protocol.specs.Locations.{where_reached}
use Rattle.protocol.specs.Runs.{fetches, with_fetching}
use Rattle.protocol.specs.Steps.{WorkerContext, changes, is_own, object_at, says, store_here, with_store, with_task_of}
use Rattle.protocol.specs.Stores.{copy_in, looked_up, with_secondary}
use Rattle.protocol.specs.Tables.{chosen_location, has_content, is_lost, is_waiting_for, live_location, Object, OwnTask, settled_number, task_of, with_asker}
use Rattle.protocol.specs.Tables.{with_content, with_location, without_askers, without_location, without_locations}
use Rattle.step_laws.specs.Spending.{Spends}
use Rattle.step_laws.proofs.Spends.{faults_spends, fetching_spends, gets_spends, spends_if, spends_none, spends_same, spends_then}
use Rattle.step_laws.proofs.Asks.{answers_faulted_spends, each_result_spends, faults_if_waiting_spends, recovers_if_lost_spends, recovers_spends, resolves_spends}

pub fetches_spends : (h : WorkerContext) (o : Id) (number n : ℕ) → Spends h (fetches h o number n)
fetches_spends h o number n = spends_then (fetching_spends h (Some (record { number = number; node = n }))) (spends_same refl refl)

looks_elsewhere_spends : (h : WorkerContext) (o : Id) (x : Object) (r : Option ℕ) → Spends h (looks_elsewhere_by h o x r)
looks_elsewhere_spends h o x None =
    spends_then {g = changes h o without_locations} (spends_same refl refl) (recovers_if_lost_spends (changes h o without_locations) o)
looks_elsewhere_spends h o x (Some n) = fetches_spends h o (settled_number x) n

looks_here_spends : (h : WorkerContext) (o : Id) (x : Object) (c : Option Outcome) → Spends h (looks_here_by h o x c)
looks_here_spends h o x None =
    let g : WorkerContext = changes h o (without_location h.worker.node) in
    spends_then {g = g} (spends_same refl refl)
    (looks_elsewhere_spends g o (without_location h.worker.node x) (live_location g.worker (without_location h.worker.node x).locations))
looks_here_spends h o x (Some c) =
    let g : WorkerContext = with_store h (looked_up (store_here h) o (settled_number x)) in spends_then {g = g} (spends_same refl refl) (gets_spends g c)

looks_at_locations_spends : (h : WorkerContext) (o : Id) (x : Object) → Spends h (looks_at_locations h o x)
looks_at_locations_spends h o x =
    spends_if (has x.locations h.worker.node) (looks_here_spends h o x (copy_in (store_here h) o (settled_number x)))
    (looks_elsewhere_spends h o x (live_location h.worker x.locations))

looks_for_by_spends : (h : WorkerContext) (o : Id) (x : Object) (kept : Option Outcome) → Spends h (looks_for_by h o x kept)
looks_for_by_spends h o x None = looks_at_locations_spends h o x
looks_for_by_spends h o x (Some c) = gets_spends h c

looks_for_spends : (h : WorkerContext) (o : Id) (x : Object) → Spends h (looks_for h o x)
looks_for_spends h o x = looks_for_by_spends h o x x.kept

needs_released_spends : (h : WorkerContext) (e : Option Id) → Spends h (needs_released h e)
needs_released_spends h None = spends_none
needs_released_spends h (Some e) = faults_spends h (fault OwnerDied e)

needs_by_spends : (h : WorkerContext) (o : Id) (x : Object) (f : Option Fault) → Spends h (needs_by h o x f)
needs_by_spends h o x None = spends_if (has_content x) (looks_for_spends h o x) (spends_if (is_lost h.worker.objects x) (recovers_spends h o) (spends_if x.is_released (needs_released_spends h x.dead_holder) spends_none))
needs_by_spends h o x (Some f) = faults_spends h f

needs_at_spends : (h : WorkerContext) (o : Id) (x : Option Object) → Spends h (needs_at h o x)
needs_at_spends h o None = spends_none
needs_at_spends h o (Some x) = needs_by_spends h o x x.fault

pub needs_own_spends : (h : WorkerContext) (o : Id) → Spends h (needs_own h o)
needs_own_spends h o = spends_then (fetching_spends h None) (needs_at_spends (with_fetching h None) o (object_at h o))

pub needs_own_if_waiting_spends : (h : WorkerContext) (o : Id) → Spends h (needs_own_if_waiting h o)
needs_own_if_waiting_spends h o = spends_if (is_waiting_for h.worker o) (needs_own_spends h o) spends_none

pub tells_locations_spends : (ws : List ℕ) (h : WorkerContext) (o : Id) (x : Object) → Spends h (tells_locations h ws o x)
tells_locations_spends [] h o x = spends_none
tells_locations_spends (w ∷ ws) h o x =
    let g : WorkerContext = says h w (At o (settled_number x) x.locations x.kept) in spends_then {g = g} (spends_same refl refl) (tells_locations_spends ws g o x)

answers_settled_by_spends : (h : WorkerContext) (o : Id) (x : Option Object) → Spends h (answers_settled_by h o x)
answers_settled_by_spends h o None = spends_none
answers_settled_by_spends h o (Some x) =
    let k : WorkerContext = changes h o without_askers in
    spends_then {g = k} (spends_same refl refl) (spends_then (tells_locations_spends x.askers k o x) (needs_own_if_waiting_spends (tells_locations k x.askers o x) o))

pub answers_settled_spends : (h : WorkerContext) (o : Id) → Spends h (answers_settled h o)
answers_settled_spends h o = answers_settled_by_spends h o (object_at h o)

tells_released_spends : (h : WorkerContext) (o : Id) (w : ℕ) (e : Option Id) → Spends h (tells_released h o w e)
tells_released_spends h o w None = spends_none
tells_released_spends h o w (Some e) = spends_same {g = says h w (Gone o (fault OwnerDied e))} refl refl

answers_asker_spends : (h : WorkerContext) (o : Id) (w : ℕ) (x : Object) (f : Option Fault) → Spends h (answers_asker h o w x f)
answers_asker_spends h o w x None =
    let g : WorkerContext = changes h o (with_asker w) in
    spends_if (has_content x) (spends_same {g = says h w (At o (settled_number x) x.locations x.kept)} refl refl)
    (spends_if x.is_released (tells_released_spends h o w x.dead_holder)
    (spends_if (is_lost h.worker.objects x) (spends_then {g = g} (spends_same refl refl) (recovers_spends g o)) (spends_same {g = g} refl refl)))
answers_asker_spends h o w x (Some f) = spends_same refl refl

asker_by_spends : (h : WorkerContext) (o : Id) (w : ℕ) (x : Option Object) → Spends h (asker_by h o w x)
asker_by_spends h o w None = spends_none
asker_by_spends h o w (Some x) = spends_if (w == h.me) spends_none (answers_asker_spends h o w x x.fault)

pub where_spends : (h : WorkerContext) (w : ℕ) (o : Id) → Spends h (where_reached h w o)
where_spends h w o = asker_by_spends h o w (object_at h o)

finds_none_spends : (h : WorkerContext) (o : Id) (number n : ℕ) → Spends h (finds_none h o number n)
finds_none_spends h o number n = spends_then (fetching_spends h None) (spends_same refl refl)

answered_here_spends : (h : WorkerContext) (o : Id) (number : ℕ) (c : Option Outcome) → Spends h (answered_here h o number c)
answered_here_spends h o number None = finds_none_spends h o number h.worker.node
answered_here_spends h o number (Some c) =
    let g : WorkerContext = with_store h (looked_up (store_here h) o number) in spends_then {g = g} (spends_same refl refl) (gets_spends g c)

goes_to_spends : (h : WorkerContext) (o : Id) (number : ℕ) (r : Option ℕ) → Spends h (goes_to h o number r)
goes_to_spends h o number None = spends_none
goes_to_spends h o number (Some n) =
    spends_if (n == h.worker.node) (answered_here_spends h o number (copy_in (store_here h) o number))
    (spends_if (has h.worker.dead_nodes n) (finds_none_spends h o number n) (fetches_spends h o number n))

adds_location_by_spends : (h : WorkerContext) (o : Id) (number n : ℕ) (x : Option Object) → Spends h (adds_location_by h o number n x)
adds_location_by_spends h o number n None = spends_none
adds_location_by_spends h o number n (Some x) =
    spends_if (is_present number x && may_gain_location h.worker.objects x) (spends_same {g = changes h o (with_location n)} refl refl) spends_none

adds_locations_spends : (ns : List ℕ) (h : WorkerContext) (o : Id) (number : ℕ) → Spends h (adds_locations h o number ns)
adds_locations_spends [] h o number = spends_none
adds_locations_spends (n ∷ ns) h o number =
    spends_then (adds_location_by_spends h o number n (object_at h o)) (adds_locations_spends ns (adds_location h o number n) o number)

at_answers_spends : (h : WorkerContext) (o : Id) (number : ℕ) (ns : List ℕ) (kept : Option Outcome) → Spends h (at_answers h o number ns kept)
at_answers_spends h o number ns None = goes_to_spends h o number (chosen_location h.worker ns)
at_answers_spends h o number ns (Some c) = gets_spends h c

pub at_spends : (h : WorkerContext) (o : Id) (number : ℕ) (ns : List ℕ) (kept : Option Outcome) → Spends h (at_reached h o number ns kept)
at_spends h o number ns kept =
    spends_if (is_own h o) (adds_locations_spends ns h o number)
    (spends_if (is_waiting_for h.worker o) (at_answers_spends h o number ns kept) spends_none)

pub gone_spends : (h : WorkerContext) (o : Id) (f : Fault) → Spends h (gone_reached h o f)
gone_spends h o f = faults_if_waiting_spends h o f

takes_location_by_spends : (h : WorkerContext) (o : Id) (number n : ℕ) (x : Option Object) → Spends h (takes_location_by h o number n x)
takes_location_by_spends h o number n None = spends_none
takes_location_by_spends h o number n (Some x) = spends_if (is_present number x) (spends_same {g = changes h o (without_location n)} refl refl) spends_none

missing_from_spends : (h : WorkerContext) (from : Endpoint) (o : Id) → Spends h (missing_from h from o)
missing_from_spends h (TheWorker w) o = where_spends h w o
missing_from_spends h (TheNode n) o = needs_own_if_waiting_spends h o

pub missing_spends : (h : WorkerContext) (from : Endpoint) (o : Id) (number n : ℕ) → Spends h (missing_reached h from o number n)
missing_spends h from o number n =
    spends_if (is_own h o) (spends_then (takes_location_by_spends h o number n (object_at h o)) (missing_from_spends (takes_location h o number n) from o))
    (spends_if (is_waiting_for h.worker o) (finds_none_spends h o number n) (spends_same {g = reports_missing h o number n} refl refl))

makes_known_spends : (h : WorkerContext) (o : Id) (number : ℕ) → Spends h (makes_copy_known h o number)
makes_known_spends h o number =
    spends_if (is_own h o) (adds_location_by_spends h o number h.worker.node (object_at h o))
    (spends_same {g = says h o.owner (At o number (h.worker.node ∷ []) None)} refl refl)

pub copy_spends : (h : WorkerContext) (o : Id) (number : ℕ) (c : Outcome) → Spends h (copy_reached h o number c)
copy_spends h o number c =
    let g : WorkerContext = with_store h (with_secondary (store_here h) o number c) in
    let k : WorkerContext = makes_copy_known g o number in
    spends_if (is_waiting_for h.worker o)
    (spends_then {g = g} (spends_same refl refl) (spends_then {g = k} (makes_known_spends g o number) (gets_spends k c))) spends_none

-- ---- ends

settles_spends : (count : ℕ) (h : WorkerContext) (o : Id) (number n : ℕ) (rs : List EndedResult) → Spends h (settles h o number n count rs)
settles_spends zero h o number n rs = spends_none
settles_spends (suc count) h o number n rs =
    let g : WorkerContext = changes h o (with_content number n (first_result rs).ids (first_result rs).kept) in
    spends_then {g = g} (spends_same refl refl) (settles_spends count g (next_id o) number n (rest_of rs))

accepts_spends : (h : WorkerContext) (a : Attempt) (task : OwnTask) (n : ℕ) (rs : List EndedResult) → Spends h (accepts h a task n rs)
accepts_spends h a task n rs =
    let k : WorkerContext = with_task_of h a.object (rests task) in
    let g : WorkerContext = settles k a.object a.number n (results_of task.spec) rs in
    spends_then {g = g} (spends_then {g = k} (spends_same refl refl) (settles_spends (results_of task.spec) k a.object a.number n rs)) (spends_same refl refl)

finished_by_spends : (h : WorkerContext) (w : ℕ) (a : Attempt) (n : ℕ) (rs : List EndedResult) (r : Option OwnTask) → Spends h (finished_by h w a n rs r)
finished_by_spends h w a n rs None = spends_same refl refl
finished_by_spends h w a n rs (Some task) =
    let k : WorkerContext = accepts h a task n rs in
    let g : WorkerContext = hears_of_end k w a in
    spends_if (if_present a task)
    (spends_then {g = g} (spends_then {g = k} (accepts_spends h a task n rs) (spends_same {g = g} refl refl))
    (each_result_spends answers_settled answers_settled_spends g a.object task))
    (spends_same {g = hears_of_end h w a} refl refl)

pub finished_spends : (h : WorkerContext) (w : ℕ) (a : Attempt) (n : ℕ) (rs : List EndedResult) → Spends h (finished_reached h w a n rs)
finished_spends h w a n rs = finished_by_spends h w a n rs (task_of (object_at h a.object))

resolves_open_by_spends : (h : WorkerContext) (o : Id) (f : Fault) (x : Option Object) → Spends h (resolves_open_by h o f x)
resolves_open_by_spends h o f None = spends_none
resolves_open_by_spends h o f (Some x) = spends_if (is_none x.fault) (resolves_spends h o f) spends_none

failed_by_spends : (h : WorkerContext) (w : ℕ) (a : Attempt) (f : Fault) (r : Option OwnTask) → Spends h (failed_by h w a f r)
failed_by_spends h w a f None = spends_same refl refl
failed_by_spends h w a f (Some task) =
    let k : WorkerContext = with_task_of h a.object (rests task) in
    let l : WorkerContext = fails h a task f in
    let g : WorkerContext = hears_of_end l w a in
    spends_if (if_present a task)
    (spends_then {g = g} (spends_then {g = l} (spends_then {g = k} (spends_same refl refl)
    (each_result_spends (resolves_open f) (λ x p. resolves_open_by_spends x p f (object_at x p)) k a.object task)) (spends_same {g = g} refl refl))
    (each_result_spends answers_faulted answers_faulted_spends g a.object task))
    (spends_same {g = hears_of_end h w a} refl refl)

pub failed_spends : (h : WorkerContext) (w : ℕ) (a : Attempt) (f : Fault) → Spends h (failed_reached h w a f)
failed_spends h w a f = failed_by_spends h w a f (task_of (object_at h a.object))
