-- What is released opens no worker.
use Rattle.std.proofs.Common.{Bool, List, None, Option, Some, [], false, length, refl, suc, true, zero, ℕ, ◌+◌, ◌∙◌, ◌∷◌, ◌≡◌}
use Rattle.std.specs.Prelude.{if◌then◌else◌, map, ◌==◌}
use Rattle.protocol.specs.of_event_log.Entries.{Released}
use Rattle.meaning.specs.Runs.{ids_from}
use Rattle.meaning.specs.Values.{Id}
use Rattle.protocol.specs.Holders.{unhold_reached}
use Rattle.protocol.specs.Messages.{Reason, Unhold, WasReleased}
use Rattle.protocol.specs.Releases.{drops_copies, entries_made, going_with, lets_all_go, lets_go, lets_go_of, marks_released, may_release, release_pass}
use Rattle.protocol.specs.Releases.{release_passes, release_step, releases_all, releases_by}
use Rattle.protocol.specs.Steps.{WorkerContext, changes, each_from, is_own, logs_all, own_id, own_object, says_to_node}
use Rattle.protocol.specs.Tables.{Object, released}

-- a step that opens none
pub record OpensNone (h g : WorkerContext) : Type 0 where
  pub same : g.there.opened ≡ h.there.opened

none_then : {h g k : WorkerContext} → OpensNone h g → OpensNone g k → OpensNone h k
none_then a b = record { same = b.same ∙ a.same }

none_if : {h g k : WorkerContext} (b : Bool) → OpensNone h g → OpensNone h k → OpensNone h (if b then g else k)
none_if true x y = x
none_if false x y = y

opens_none : {h : WorkerContext} → OpensNone h h
opens_none {h} = record { same = refl }

each_none : (f : WorkerContext → ℕ → WorkerContext) → ((h : WorkerContext) (k : ℕ) → OpensNone h (f h k)) → (n : ℕ) (h : WorkerContext) (k : ℕ) → OpensNone h (each_from f h k n)
each_none f step zero h k = opens_none
each_none f step (suc n) h k = none_then (step h k) (each_none f step n (f h k) (k + 1))

unhold_none : (h : WorkerContext) (e o : Id) (why : Reason) → OpensNone h (unhold_reached h e o why)
unhold_none h e o why = none_if (is_own h o) (record { same = refl }) opens_none

lets_go_of_none : (h : WorkerContext) (e o : Id) → OpensNone h (lets_go_of h e o)
lets_go_of_none h e o = none_if (is_own h o) (unhold_none h e o WasReleased) (record { same = refl })

lets_go_none : (os : List Id) (h : WorkerContext) (e : Id) → OpensNone h (lets_go h e os)
lets_go_none [] h e = opens_none
lets_go_none (o ∷ os) h e = none_then (lets_go_of_none h e o) (lets_go_none os (lets_go_of h e o) e)

drops_none : (ns : List ℕ) (h : WorkerContext) (e : Id) → OpensNone h (drops_copies h e ns)
drops_none [] h e = opens_none
drops_none (n ∷ ns) h e = let g : WorkerContext = says_to_node h n (Unhold e e WasReleased) in none_then {g = g} (record { same = refl }) (drops_none ns g e)

lets_all_go_none : (h : WorkerContext) (e : Id) (x : Option Object) → OpensNone h (lets_all_go h e x)
lets_all_go_none h e None = opens_none
lets_all_go_none h e (Some x) = none_then (lets_go_none x.ids h e) (drops_none x.all_locations (lets_go h e x.ids) e)

marks_none : (h : WorkerContext) (k n : ℕ) → OpensNone h (marks_released h k n)
marks_none h k n = each_none (λ g i. changes g (own_id g i) released) (λ g i. record { same = refl }) n h k

releases_all_none : (h : WorkerContext) (k n : ℕ) → OpensNone h (releases_all h k n)
releases_all_none h k n =
    let m : WorkerContext = marks_released h k n in
    let g : WorkerContext = logs_all m (map Released (ids_from (own_id h k) n)) in
    none_then {g = g} (none_then {g = m} (marks_none h k n) (record { same = refl }))
    (each_none (λ x i. lets_all_go x (own_id x i) (own_object x i)) (λ x i. lets_all_go_none x (own_id x i) (own_object x i)) n g k)

releases_by_none : (h : WorkerContext) (k : ℕ) (x : Option Object) → OpensNone h (releases_by h k x)
releases_by_none h k None = opens_none
releases_by_none h k (Some x) = none_if (may_release h.worker k x) (releases_all_none h k (going_with x.source)) opens_none

release_pass_none : (h : WorkerContext) → OpensNone h (release_pass h)
release_pass_none h = each_none (λ g k. releases_by g k (own_object g k)) (λ g k. releases_by_none g k (own_object g k)) (length h.worker.objects) h 1

release_passes_none : (n : ℕ) (b : Bool) (h : WorkerContext) → OpensNone h (release_passes b n h)
release_passes_none n true h = opens_none
release_passes_none zero false h = opens_none
release_passes_none (suc n) false h = none_then (release_pass_none h) (release_passes_none n (entries_made (release_pass h) == entries_made h) (release_pass h))

-- what is released opens no worker
pub release_opens_none : (h : WorkerContext) → (release_step h).there.opened ≡ h.there.opened
release_opens_none h = (release_passes_none (length h.worker.objects + 1) false h).same
