-- What is answered leaves the content of every other object, and whatever is accepted has one.
use Rattle.std.proofs.Common.{arith, inl, inr, List, None, Option, refl, Some, subst, suc, sym, zero, ℕ, ◌+◌, ◌<◌, ◌∙◌, ◌≡◌, ◌≢◌, ◌≤◌, ◌⊎◌}
use Rattle.std.specs.Prelude.{false, is_some, true, ◌==◌}
use Rattle.std.proofs.lemmas.Bool.{eqb-true}
use Rattle.std.proofs.lemmas.Bool.Decides.{nat_tests}
use Rattle.meaning.proofs.BirthLaws.{at_test}
use Rattle.meaning.specs.Runs.{next_id}
use Rattle.meaning.specs.Values.{Id}
use Rattle.step_laws.proofs.Lists.{changed_cases}
use Rattle.step_laws.specs.of_protocol.Ends.{first_result, settles}
use Rattle.step_laws.specs.of_protocol.Messages.{EndedResult}
use Rattle.step_laws.specs.of_protocol.Locations.{answers_settled, answers_settled_by}
use Rattle.step_laws.specs.of_event_log.Entries.{Faulted}
use Rattle.step_laws.specs.of_protocol.Runs.{gives_slot_back}
use Rattle.step_laws.specs.of_protocol.Sets.{rest_of}
use Rattle.step_laws.specs.of_protocol.Steps.{changes, WorkerContext, logs, own_id, own_object, with_phase}
use Rattle.step_laws.specs.of_protocol.Tables.{HasFaulted, is_nowhere, Object, with_content}
use Rattle.smallest_steps.proofs.Known.{own_here, somewhere}
use Rattle.smallest_steps.proofs.Needing as N
use Rattle.smallest_steps.proofs.Over as O
use Rattle.smallest_steps.proofs.Smallest.{KeepsNeeds, KeepsOver}

-- it has a content, which can be had
abbrev pub IsHad : Object → Type 0
IsHad x = (is_some x.settled ≡ true) × (is_nowhere x ≡ false)

-- the own object of that serial, if it is there, has its content
abbrev pub HasContent : ℕ → WorkerContext → Type 0
HasContent k h = (x : Object) → own_object h k ≡ Some x → IsHad x

module _ (k : ℕ) where
  -- a change of any object that leaves what it has
  changed_has : (h : WorkerContext) (o : Id) (f : Object → Object) → ((x : Object) → IsHad x → IsHad (f x)) → HasContent k h → HasContent k (changes h o f)
  changed_has h o f leaves has y there = elim (changed_cases h.worker.objects o.serial f k y there) [
    | inl (e, q) ↦ subst IsHad q.2 (leaves q.0 (has q.0 q.1))
    | inr (e, at) ↦ has y at
  ]

  -- a change of another one
  other_has : (h : WorkerContext) (o : Id) (f : Object → Object) → o.serial ≢ k → HasContent k h → HasContent k (changes h o f)
  other_has h o f other has y there = elim (changed_cases h.worker.objects o.serial f k y there) [
    | inl (e, q) ↦ absurd (other (sym e))
    | inr (e, at) ↦ has y at
  ]

  over : KeepsOver (HasContent k)
  over = record {
    over = λ h run next _ _ _ _ _ p. p;
    heard = λ h run _ _ p. p;
    end_told = λ h run n rs _ _ p. p;
    fault_told = λ h run f _ _ p. p;
    back = λ h run _ _ p. p;
  }

  needs : KeepsNeeds (λ o. o.serial ≢ k) (HasContent k)
  needs = record {
    placed = λ h o f other _ p. other_has h o f other p;
    answered = λ h o x _ _ p. changed_has h o _ (λ y had. had) p;
    resolved = λ h o f p. changed_has h o _ (λ y had. had) p;
    looked = λ h o number p. p;
    asked_anew = λ h o old task _ _ p. changed_has h o _ (λ y had. had) p;
    fetching = λ h run y f g _ _ p. p;
    got = λ h run c y f _ _ p. p;
    faulted = λ h run f y g _ _ p.
        O.leaves_if_free-kept (HasContent k) over (gives_slot_back (logs (with_phase h run (HasFaulted f)) (Faulted run.attempt y f))) p;
    place_told = λ h w y number ns c _ p. p;
    gone_told = λ h w y f p. p;
    copy_asked = λ h n y number p. p;
  }

-- one that has its content is answered, and the others keep theirs
pub others_stay : (h : WorkerContext) (k i : ℕ) → k ≢ i → HasContent k h → HasContent i h → HasContent i (answers_settled h (own_id h k))
others_stay h k i other has stays = by_object (own_object h k) refl
  where
    by_object : (x : Option Object) → own_object h k ≡ x → HasContent i (answers_settled h (own_id h k))
    by_object None e = subst (λ y. HasContent i (answers_settled_by h (own_id h k) y)) (sym (own_here h k ∙ e)) stays
    by_object (Some x) e =
        N.answers_settled-kept (HasContent i) (λ p. p.serial ≢ i) (needs i) h (own_id h k) x (own_here h k ∙ e) (has x e).1 (has x e).0 other stays

-- ---- an acceptance

now_had : (number n : ℕ) (r : EndedResult) (x : Object) → IsHad (with_content number n r.ids r.kept x)
now_had number n r x = (refl, somewhere n r.kept)

-- what is settled has its content
now_has : (h : WorkerContext) (o : Id) (number n : ℕ) (r : EndedResult) → HasContent o.serial (changes h o (with_content number n r.ids r.kept))
now_has h o number n r y there = elim (changed_cases h.worker.objects o.serial (with_content number n r.ids r.kept) o.serial y there) [
  | inl (e, q) ↦ subst IsHad q.2 (now_had number n r q.0)
  | inr (e, at) ↦ absurd (e refl)
]

above : (m j : ℕ) → m ≤ j → (m == j) ≡ false → m + 1 ≤ j
above m j low other = grind (arith, nat_tests)

settles_has : (count : ℕ) (h : WorkerContext) (o : Id) (number n : ℕ) (rs : List EndedResult) (i : ℕ) →
    HasContent i h ⊎ ((o.serial ≤ i) × (i < o.serial + count)) → HasContent i (settles h o number n count rs)
settles_has zero h o number n rs i (inl has) = has
settles_has zero h o number n rs i (inr (low, high)) = absurd (omega (arith, low, high))
settles_has (suc count) h o number n rs i p =
    settles_has count (changes h o (with_content number n (first_result rs).ids (first_result rs).kept)) (next_id o) number n (rest_of rs) i (by_case p)
  where
    by_case : HasContent i h ⊎ ((o.serial ≤ i) × (i < o.serial + suc count)) →
        HasContent i (changes h o (with_content number n (first_result rs).ids (first_result rs).kept)) ⊎ (((next_id o).serial ≤ i) × (i < (next_id o).serial + count))
    by_case (inl has) = inl (changed_has i h o _ (λ y had. now_had number n (first_result rs) y) has)
    by_case (inr (low, high)) =
        at_test (λ t. (o.serial == i) ≡ t → HasContent i (changes h o (with_content number n (first_result rs).ids (first_result rs).kept)) ⊎
        (((next_id o).serial ≤ i) × (i < (next_id o).serial + count))) (o.serial == i)
        (λ _ e. inl (subst (λ j. HasContent j (changes h o (with_content number n (first_result rs).ids (first_result rs).kept))) (eqb-true o.serial i e)
        (now_has h o number n (first_result rs))))
        (λ _ e. inr (above o.serial i low e, omega (arith, high))) refl

pub settled_rows : (count : ℕ) (h : WorkerContext) (o : Id) (number n : ℕ) (rs : List EndedResult) (i : ℕ) → o.serial ≤ i → i < o.serial + count →
    HasContent i (settles h o number n count rs)
settled_rows count h o number n rs i low high = settles_has count h o number n rs i (inr (low, high))
