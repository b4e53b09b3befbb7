-- The objects of a task are answered one after the other: while none of them is lost, each leaves the others as they were.
use Rattle.std.proofs.Common.{◌≡◌, ◌≢◌, ◌<◌, ◌≤◌, ℕ, zero, suc, ◌+◌, List, [], ◌∷◌, ◌++◌, Some, None, Option, refl, ap, sym, subst, ◌∙◌, inl, inr, arith}
use Rattle.std.specs.Prelude.{Bool, true, false, if◌then◌else◌, not, ◌==◌, ◌&&◌, ◌||◌, is_none, is_some}
use Rattle.std.specs.List.{find, list_any}
use Rattle.std.specs.Option.{option_map, unwrap_or}
use Rattle.std.proofs.lemmas.Bool.{eqb-false, eqb-true}
use Rattle.std.proofs.lemmas.Bool.Decides.{nat_tests}
use Rattle.meaning.proofs.BirthLaws.{at_test, same_id-refl, same_id-true}
use Rattle.meaning.specs.Births.{same_id}
use Rattle.meaning.specs.Values.{Id, Outcome}
use Rattle.event_log.specs.Entries.{Got}
use Rattle.protocol_owed.proofs.Nodes.{changed_cases, there_still}
use Rattle.protocol.specs.Numbered.{changed_at, item_at}
use Rattle.protocol.specs.Locations.{answers_settled, answers_settled_by, looks_at_locations, looks_elsewhere_by, looks_for, looks_for_by, looks_here_by, needs_at}
use Rattle.protocol.specs.Locations.{needs_by, needs_own, needs_own_if_waiting, needs_released, tells_locations}
use Rattle.protocol.specs.Recovery.{recovers}
use Rattle.protocol.specs.Runs.{fetches, gets, with_answer, with_fetching, with_fetching_at, with_fetching_by}
use Rattle.protocol.specs.Sets.{has, is_empty}
use Rattle.protocol.specs.Steps.{WorkerContext, changes, each_from, logs, object_at, own_id, own_object, says, store_here, with_phase, with_run, with_store}
use Rattle.protocol.specs.Stores.{Copy, Store, brought_to_front, copy_in, is_copy_of, looked_up}
use Rattle.protocol.specs.Tables.{has_content, HasEnded, HasFaulted, is_lost, is_nowhere, is_same_id, is_waiting_for, live_location, needed_by, Object}
use Rattle.protocol.specs.Tables.{object_needed, Out, Phase, locations_for, Ready, Execution, settled_number, Waits, without_askers, Worker}
use Rattle.smallest_steps.proofs.Known.{changed_here, own_here, somewhere}
use Rattle.smallest_steps.proofs.Over.{each_from-kept}
use Rattle.smallest_steps.proofs.SlotMoves as S

-- ---- the owner looks for a content that is there

-- what is found is answered, else fetched
module _ (R : WorkerContext → Type 0) (g : WorkerContext) (y : Id) (z : Object) (run : Execution) (number n : ℕ) (at : g.worker.run ≡ Some run) (item : object_at g y ≡ Some z)
    (unfaulted : z.fault ≡ None) (whole : has_content z ≡ true) (number_is : settled_number z ≡ number) (place : z.kept ≡ None → z.locations ≡ n ∷ [])
    (no_dead : g.worker.dead_nodes ≡ []) (stored : z.kept ≡ None → n ≡ g.worker.node → (d : Outcome) × (copy_in (store_here g) y number ≡ Some d))
    (keeps : (f : Id) → f ≡ y → (d : Outcome) → R (gets (with_phase g run (Waits f None)) d))
    (finds : (f : Id) → f ≡ y → (d : Outcome) → R (gets (with_store (with_phase g run (Waits f None)) (looked_up (store_here g) y (settled_number z))) d))
    (asks : (f : Id) → f ≡ y → R (fetches (with_phase g run (Waits f None)) y (settled_number z) n)) where
  looks_at : z.kept ≡ None → (f : Id) → f ≡ y → R (looks_at_locations (with_phase g run (Waits f None)) y z)
  looks_at none f is =
      let h : WorkerContext = with_phase g run (Waits f None) in
      subst (λ ns. R (if has ns g.worker.node then looks_here_by h y z (copy_in (store_here g) y (settled_number z)) else looks_elsewhere_by h y z (live_location h.worker ns)))
      (sym (place none))
      (at_test (λ t. has (n ∷ []) g.worker.node ≡ t →
      R (if t then looks_here_by h y z (copy_in (store_here g) y (settled_number z)) else looks_elsewhere_by h y z (live_location h.worker (n ∷ []))))
      (has (n ∷ []) g.worker.node)
      (λ _ here_too. looks_here f is (stored none (eqb-true n g.worker.node (only (n == g.worker.node) here_too))))
      (λ _ _. subst (λ ms. R (looks_elsewhere_by h y z (find (λ i. not (has ms i)) (n ∷ [])))) (sym no_dead) (asks f is)) refl)
    where
      only : (t : Bool) → (t || false) ≡ true → t ≡ true
      only true e = refl
      only false e = absurd (cc)

      looks_here : (f : Id) → f ≡ y → ((d : Outcome) × (copy_in (store_here g) y number ≡ Some d)) →
          R (looks_here_by (with_phase g run (Waits f None)) y z (copy_in (store_here g) y (settled_number z)))
      looks_here f is q =
          subst (λ o. R (looks_here_by (with_phase g run (Waits f None)) y z o)) (sym (ap (copy_in (store_here g) y) number_is ∙ q.1)) (finds f is q.0)

  -- what the owner keeps answers
  looks : (f : Id) → f ≡ y → R (looks_for (with_phase g run (Waits f None)) y z)
  looks f is = by_kept z.kept refl
    where
      by_kept : (r : Option Outcome) → z.kept ≡ r → R (looks_for_by (with_phase g run (Waits f None)) y z r)
      by_kept None e = looks_at e f is
      by_kept (Some d) e = keeps f is d

  pub owner_looks : object_needed run.phase ≡ Some y → R (needs_own_if_waiting g y)
  owner_looks needs = by_phase run.phase refl needs
    where
      by_phase : (p : Phase) → run.phase ≡ p → object_needed p ≡ Some y → R (needs_own_if_waiting g y)
      by_phase (Waits f fetching) e w =
          let is : f ≡ y = cc in
          let waiting : is_waiting_for g.worker y ≡ true = ap (λ o. is_same_id (needed_by o) y) at ∙ ap (λ p. is_same_id (object_needed p) y) e ∙ ap (λ i. same_id i y) is ∙ same_id-refl y in
          let fetched : with_fetching g None ≡ with_phase g run (Waits f None) = ap (with_fetching_by g None) at ∙ ap (with_fetching_at g run None) e in
          subst (λ t. R (if t then needs_own g y else g)) (sym waiting)
          (subst (λ h. R (needs_at h y (object_at g y))) (sym fetched)
          (subst (λ o. R (needs_at (with_phase g run (Waits f None)) y o)) (sym item)
          (subst (λ o. R (needs_by (with_phase g run (Waits f None)) y z o)) (sym unfaulted)
          (subst (λ t. R (if t then looks_for (with_phase g run (Waits f None)) y z else
          if is_lost g.worker.objects z then recovers (with_phase g run (Waits f None)) y else if z.is_released then needs_released (with_phase g run (Waits f None)) z.dead_holder else
          with_phase g run (Waits f None))) (sym whole) (looks f is)))))
      by_phase Ready e w = absurd (cc)
      by_phase (Out j) e w = absurd (cc)
      by_phase (HasEnded d) e w = absurd (cc)
      by_phase (HasFaulted x) e w = absurd (cc)

-- ---- what it leaves

-- objects, deaths and primary copies are as they were
pub record IsSame (h g : WorkerContext) : Type 0 where
  pub me : g.me ≡ h.me
  pub node : g.worker.node ≡ h.worker.node
  pub dead : g.worker.dead_nodes ≡ h.worker.dead_nodes
  pub objects : g.worker.objects ≡ h.worker.objects
  pub primaries : (store_here g).primaries ≡ (store_here h).primaries

there_same : (cs : List Copy) → S.KeepsSlots (λ t. t.node.store.primaries ≡ cs)
there_same cs = record { opens = λ t w p. p; replies = λ t k x p. p; scheduler = λ t s p. p }

gets_same : (h : WorkerContext) (run : Execution) (f : Id) (d : Outcome) → IsSame h (gets (with_phase h run (Waits f None)) d)
gets_same h run f d = record {
  me = refl;
  node = refl;
  dead = refl;
  objects = refl;
  primaries = S.asks_slot-kept (λ t. t.node.store.primaries ≡ (store_here h).primaries) (there_same (store_here h).primaries)
      (logs (with_run (with_phase h run (Waits f None)) (with_answer (record run { phase = Waits f None }) d)) (Got run.attempt f d)).there h.me refl;
}

looked_same : (s : Store) (o : Id) (number : ℕ) → (looked_up s o number).primaries ≡ s.primaries
looked_same s o number =
    at_test (λ b. (if b then s else brought_to_front s (find (is_copy_of o number) s.secondaries)).primaries ≡ s.primaries) (list_any (is_copy_of o number) s.primaries)
    (λ _. refl) (λ _. front (find (is_copy_of o number) s.secondaries))
  where
    front : (x : Option Copy) → (brought_to_front s x).primaries ≡ s.primaries
    front None = refl
    front (Some x) = refl

finds_same : (h : WorkerContext) (run : Execution) (f : Id) (o : Id) (number : ℕ) (d : Outcome) →
    IsSame h (gets (with_store (with_phase h run (Waits f None)) (looked_up (store_here h) o number)) d)
finds_same h run f o number d = record {
  me = refl;
  node = refl;
  dead = refl;
  objects = refl;
  primaries = S.asks_slot-kept (λ t. t.node.store.primaries ≡ (store_here h).primaries) (there_same (store_here h).primaries)
      (logs (with_store h (looked_up (store_here h) o number)) (Got run.attempt f d)).there h.me
      (looked_same (store_here h) o number);
}

fetches_same : (h : WorkerContext) (run : Execution) (f : Id) (o : Id) (number m : ℕ) → IsSame h (fetches (with_phase h run (Waits f None)) o number m)
fetches_same h run f o number m = record { me = refl; node = refl; dead = refl; objects = refl; primaries = refl }

-- ---- telling locations leaves the worker and its node

pub tells-worker : (h : WorkerContext) (ws : List ℕ) (o : Id) (x : Object) → (tells_locations h ws o x).worker ≡ h.worker
tells-worker h [] o x = refl
tells-worker h (w ∷ ws) o x = tells-worker (says h w _) ws o x

pub tells-me : (h : WorkerContext) (ws : List ℕ) (o : Id) (x : Object) → (tells_locations h ws o x).me ≡ h.me
tells-me h [] o x = refl
tells-me h (w ∷ ws) o x = tells-me (says h w _) ws o x

pub tells-node : (h : WorkerContext) (ws : List ℕ) (o : Id) (x : Object) → (tells_locations h ws o x).there.node ≡ h.there.node
tells-node h [] o x = refl
tells-node h (w ∷ ws) o x = tells-node (says h w _) ws o x

found : (p : Copy → Bool) (xs ys : List Copy) → list_any p xs ≡ true → (x : Copy) × (find p (xs ++ ys) ≡ Some x)
found p [] ys e = absurd (cc)
found p (x ∷ xs) ys e = first (p x) (found p xs ys) e
  where
    first : (t : Bool) → (list_any p xs ≡ true → (u : Copy) × (find p (xs ++ ys) ≡ Some u)) → (t || list_any p xs) ≡ true → (u : Copy) × ((if t then Some x else find p (xs ++ ys)) ≡ Some u)
    first true rest e = (x, refl)
    first false rest e = rest e

pub primary_found : (s : Store) (o : Id) (number : ℕ) → list_any (is_copy_of o number) s.primaries ≡ true → (d : Outcome) × (copy_in s o number ≡ Some d)
primary_found s o number e =
    let u = found (is_copy_of o number) s.primaries s.secondaries e in (u.0.content, ap (option_map (λ (x : Copy). x.content)) u.1)

-- ---- one object

-- it has the content of that number: its owner keeps it, or it is at that node, which has a primary copy if it is the owner's own
pub record IsThere (g : WorkerContext) (number n k : ℕ) (z : Object) : Type 0 where
  pub unfaulted : z.fault ≡ None
  pub kept : z.is_released ≡ false
  pub settled : z.settled ≡ Some number
  pub content : Option Outcome
  pub locations : z.locations ≡ locations_for n content
  pub keeps : z.kept ≡ content
  pub stored : content ≡ None → n ≡ g.worker.node → list_any (is_copy_of (own_id g k) number) (store_here g).primaries ≡ true

there_whole : (g : WorkerContext) (number n k : ℕ) (z : Object) → IsThere g number n k z → has_content z ≡ true
there_whole g number n k z t =
    ap (λ o. is_some o && is_none z.fault && not z.is_released && not (is_nowhere z)) t.settled ∙
    ap (λ o. true && is_none o && not z.is_released && not (is_nowhere z)) t.unfaulted ∙
    ap (λ b. true && true && not b && not (is_nowhere z)) t.kept ∙
    ap (λ ns. true && true && true && not (is_empty ns && is_none z.kept)) t.locations ∙
    ap (λ o. true && true && true && not (is_empty (locations_for n t.content) && is_none o)) t.keeps ∙
    ap (λ b. true && true && true && not b) (somewhere n t.content)

-- what an answer to object k leaves
pub record Leaves (h g : WorkerContext) (k : ℕ) : Type 0 where
  pub me : g.me ≡ h.me
  pub node : g.worker.node ≡ h.worker.node
  pub dead : g.worker.dead_nodes ≡ h.worker.dead_nodes
  pub others : (i : ℕ) → i ≢ k → own_object g i ≡ own_object h i
  pub primaries : (store_here g).primaries ≡ (store_here h).primaries
  pub runs : is_waiting_for h.worker (own_id h k) ≡ false → g.worker.run ≡ h.worker.run

other_row : (xs : List Object) (k i : ℕ) (f : Object → Object) → i ≢ k → item_at (changed_at xs k f) i ≡ item_at xs i
other_row xs k i f apart = by_item (item_at (changed_at xs k f) i) refl (item_at xs i) refl
  where
    by_item : (o : Option Object) → item_at (changed_at xs k f) i ≡ o → (p : Option Object) → item_at xs i ≡ p → item_at (changed_at xs k f) i ≡ item_at xs i
    by_item None e None g = e ∙ sym g
    by_item (Some y) e p g = elim (changed_cases xs k i f y e) [ inl (same, _, _, _) ↦ absurd (apart same) | inr (_, at) ↦ e ∙ sym at ]
    by_item None e (Some x) g = let y = there_still xs k i f x g in let q : ◌≡◌ {A = Option Object} None (Some y.0) = sym e ∙ y.1 in absurd (cc)

own_now : (h : WorkerContext) (k : ℕ) (f : Object → Object) (z : Object) → own_object h k ≡ Some z → object_at (changes h (own_id h k) f) (own_id h k) ≡ Some (f z)
own_now h k f z at = own_here (changes h (own_id h k) f) k ∙ changed_here h.worker.objects k f z at

module _ (h : WorkerContext) (number n k : ℕ) (z : Object) (at : own_object h k ≡ Some z) (there : IsThere h number n k z) (no_dead : h.worker.dead_nodes ≡ []) where
  abbrev o : Id
  o = own_id h k

  abbrev cleared : WorkerContext
  cleared = changes h o without_askers

  abbrev told : WorkerContext
  told = tells_locations cleared z.askers o z

  same : told.worker ≡ cleared.worker
  same = tells-worker cleared z.askers o z

  me_same : told.me ≡ h.me
  me_same = tells-me cleared z.askers o z

  pub answer_is : answers_settled h o ≡ needs_own_if_waiting told o
  answer_is = ap (answers_settled_by h o) (own_here h k ∙ at)

  pub told_item : object_at told o ≡ Some (without_askers z)
  told_item =
      ap (λ m. if o.owner == m then item_at told.worker.objects k else None) me_same ∙
      ap (λ (x : Worker). if o.owner == h.me then item_at x.objects k else None) same ∙ own_now h k without_askers z at

  pub whole_still : has_content (without_askers z) ≡ true
  whole_still = there_whole h number n k z there

  pub place_is : z.kept ≡ None → z.locations ≡ n ∷ []
  place_is none = there.locations ∙ ap (locations_for n) (sym there.keeps ∙ none)

  pub stored_there : z.kept ≡ None → n ≡ told.worker.node → (d : Outcome) × (copy_in (store_here told) o number ≡ Some d)
  stored_there none home =
      let q = primary_found (store_here h) o number (there.stored (sym there.keeps ∙ none) (home ∙ ap (λ (x : Worker). x.node) same)) in
      (q.0, ap (λ s. copy_in s o number) (ap (λ x. x.store) (tells-node cleared z.askers o z)) ∙ q.1)

  pub dead_still : told.worker.dead_nodes ≡ []
  dead_still = ap (λ (x : Worker). x.dead_nodes) same ∙ no_dead

  leaves_told : (g : WorkerContext) → IsSame told g → (is_waiting_for h.worker o ≡ false → g.worker.run ≡ h.worker.run) → Leaves h g k
  leaves_told g s runs = record {
    me = s.me ∙ me_same;
    node = s.node ∙ ap (λ (x : Worker). x.node) same;
    dead = s.dead ∙ ap (λ (x : Worker). x.dead_nodes) same;
    others = λ i apart. ap (λ xs. item_at xs i) s.objects ∙ ap (λ (x : Worker). item_at x.objects i) same ∙ other_row h.worker.objects k i without_askers apart;
    primaries = s.primaries ∙ ap (λ x. x.store.primaries) (tells-node cleared z.askers o z);
    runs = runs;
  }

  looked_for : (run : Execution) → told.worker.run ≡ Some run → object_needed run.phase ≡ Some o → IsSame told (needs_own_if_waiting told o)
  looked_for run is needs =
      owner_looks (IsSame told) told o (without_askers z) run number n is told_item there.unfaulted whole_still (ap (λ s. unwrap_or s 0) there.settled) place_is
      dead_still stored_there (λ f _ d. gets_same told run f d) (λ f _ d. finds_same told run f o (settled_number z) d)
      (λ f _. fetches_same told run f o (settled_number z) n) needs

  pub answers_leave : Leaves h (answers_settled h o) k
  answers_leave = subst (λ g. Leaves h g k) (sym answer_is)
      (at_test (λ t. is_waiting_for told.worker o ≡ t → Leaves h (if t then needs_own told o else told) k) (is_waiting_for told.worker o)
      (λ _ waits. waiting waits)
      (λ _ _. leaves_told told (record { me = refl; node = refl; dead = refl; objects = refl; primaries = refl }) (λ _. ap (λ (x : Worker). x.run) same)) refl)
    where
      clash : (t : Bool) → t ≡ true → t ≡ false → ⊥
      clash t e f = cc

      waiting : is_waiting_for told.worker o ≡ true → Leaves h (needs_own told o) k
      waiting waits = by_run told.worker.run refl waits
        where
          was : is_waiting_for told.worker o ≡ is_waiting_for h.worker o
          was = ap (λ (x : Worker). is_waiting_for x o) same

          by_run : (r : Option Execution) → told.worker.run ≡ r → is_same_id (needed_by r) o ≡ true → Leaves h (needs_own told o) k
          by_run None e f = absurd (cc)
          by_run (Some run) e f = by_need (object_needed run.phase) refl f
            where
              by_need : (p : Option Id) → object_needed run.phase ≡ p → is_same_id p o ≡ true → Leaves h (needs_own told o) k
              by_need None i f = absurd (cc)
              by_need (Some y) i f =
                  let is : y ≡ o = same_id-true y o f in
                  leaves_told (needs_own told o)
                  (subst (λ t. IsSame told (if t then needs_own told o else told)) waits (looked_for run e (i ∙ ap (λ u. Some u) is)))
                  (λ no. absurd (clash (is_waiting_for h.worker o) (sym was ∙ waits) no))

-- ---- all of them

-- what is there is there for all that an answer leaves
there_after : (h g : WorkerContext) (number n k i : ℕ) (z : Object) → Leaves h g k → IsThere h number n i z → IsThere g number n i z
there_after h g number n k i z l t = record {
  unfaulted = t.unfaulted;
  kept = t.kept;
  settled = t.settled;
  content = t.content;
  locations = t.locations;
  keeps = t.keeps;
  stored = λ none home.
      ap (λ m. list_any (is_copy_of (record { owner = m; serial = i }) number) (store_here g).primaries) l.me ∙
      ap (λ cs. list_any (is_copy_of (own_id h i) number) cs) l.primaries ∙ t.stored none (home ∙ l.node);
}

abbrev AreThere : WorkerContext → ℕ → ℕ → ℕ → ℕ → Type 0
AreThere h number n k count = (i : ℕ) → k ≤ i → i < k + count → (z : Object) → own_object h i ≡ Some z → IsThere h number n i z

-- each but the first, once that was answered
still_there : (h : WorkerContext) (number n k count : ℕ) → AreThere h number n k (suc count) → Leaves h (answers_settled h (own_id h k)) k →
    AreThere (answers_settled h (own_id h k)) number n (k + 1) count
still_there h number n k count all l i low high z at =
    there_after h (answers_settled h (own_id h k)) number n k i z l
    (all i (omega (arith, low)) (omega (arith, high)) z (sym (l.others i (λ e. omega (arith, low, e))) ∙ at))

answered_row : (h : WorkerContext) (number n k count : ℕ) → AreThere h number n k (suc count) → h.worker.dead_nodes ≡ [] → Leaves h (answers_settled h (own_id h k)) k
answered_row h number n k count all no_dead = by_object (own_object h k) refl
  where
    by_object : (x : Option Object) → own_object h k ≡ x → Leaves h (answers_settled h (own_id h k)) k
    by_object None e = subst (λ y. Leaves h (answers_settled_by h (own_id h k) y) k) (sym (own_here h k ∙ e))
        (record { me = refl; node = refl; dead = refl; others = λ i _. refl; primaries = refl; runs = λ _. refl })
    by_object (Some z) e = answers_leave h number n k z e (all k (omega arith) (omega arith) z e) no_dead

-- whatever comes of the answer to one of them, in a state in which it is as it was, stays so to the end; and what is true of the run, if no answer
-- before changes that
pub rows_answered : (Q : WorkerContext → Type 0) → ((h : WorkerContext) (o : Id) → Q h → Q (answers_settled h o)) → (W : Option Execution → Type 0) → (me number n t : ℕ) (z : Object) →
    ((h g : WorkerContext) (i : ℕ) → h.me ≡ me → i ≢ t → Leaves h g i → W h.worker.run → W g.worker.run) →
    ((h : WorkerContext) → h.me ≡ me → own_object h t ≡ Some z → IsThere h number n t z → h.worker.dead_nodes ≡ [] → W h.worker.run → Q (answers_settled h (own_id h t))) →
    (count : ℕ) (h : WorkerContext) (k : ℕ) → k ≤ t → t < k + count → h.me ≡ me → own_object h t ≡ Some z → AreThere h number n k count → h.worker.dead_nodes ≡ [] →
    W h.worker.run → Q (each_from (λ g i. answers_settled g (own_id g i)) h k count)
rows_answered Q stays W me number n t z others answered zero h k low high is at all no_dead runs = absurd (omega (arith, low, high))
rows_answered Q stays W me number n t z others answered (suc count) h k low high is at all no_dead runs =
    at_test (λ b. (k == t) ≡ b → Q (each_from (λ g i. answers_settled g (own_id g i)) (answers_settled h (own_id h k)) (k + 1) count)) (k == t)
    (λ _ e. each_from-kept Q (λ g i. answers_settled g (own_id g i)) (λ g i q. stays g (own_id g i) q) (answers_settled h (own_id h k)) (k + 1) count
    (subst (λ j. Q (answers_settled h (own_id h j))) (sym (eqb-true k t e)) (answered h is at (all t low high z at) no_dead runs)))
    (λ _ e.
    let apart : k ≢ t = eqb-false k t e in
    let l : Leaves h (answers_settled h (own_id h k)) k = answered_row h number n k count all no_dead in
    rows_answered Q stays W me number n t z others answered count (answers_settled h (own_id h k)) (k + 1) (above k t low e) (omega (arith, high)) (l.me ∙ is)
    (l.others t (λ f. apart (sym f)) ∙ at) (still_there h number n k count all l) (l.dead ∙ no_dead) (others h (answers_settled h (own_id h k)) k is apart l runs)) refl
  where
    above : (m j : ℕ) → m ≤ j → (m == j) ≡ false → m + 1 ≤ j
    above m j less other = grind (arith, nat_tests)
