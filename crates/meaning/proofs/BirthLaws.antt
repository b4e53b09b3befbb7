-- What stands at an object among births.
use Rattle.std.proofs.Common.{◌≡◌, ℕ, zero, suc, ◌+◌, ◌-◌, ◌<◌, ◌≤◌, Bool, true, false, List, [], ◌∷◌, ◌++◌, map, Option, Some, None}
use Rattle.std.proofs.Common.{refl, sym, ap, ◌∙◌, subst, arith}
use Rattle.std.specs.Prelude.{if◌then◌else◌}
use Rattle.std.proofs.lemmas.Bool.Decides.{nat_tests}
use Rattle.meaning.specs.Values.{Named, Outcome, Birth, results_of, Completion, without_first, outcomes, outcome_at, Id}
use Rattle.meaning.specs.Runs.{next_id, ids_from, named}
use Rattle.meaning.specs.Births.{same_id, Bearing, birth_at, is_made_by, Part, part_of, part_at, AreGrouped, IsNew}
use Rattle.meaning.specs.Ids.{ValuesIn}

id_parts : (o s p t : ℕ) → o ≡ p → s ≡ t → ◌≡◌ {A = Id} (record { owner = o; serial = s }) (record { owner = p; serial = t })
id_parts o s p t e f = cc

pub same_id-true : (o p : Id) → same_id o p ≡ true → o ≡ p
unfolding same_id
same_id-true o p h =
    let owners : o.owner ≡ p.owner = grind (arith, nat_tests) in
    let serials : o.serial ≡ p.serial = grind (arith, nat_tests) in
    id_parts o.owner o.serial p.owner p.serial owners serials

pub same_id-refl : (o : Id) → same_id o o ≡ true
unfolding same_id
same_id-refl o = grind (arith, nat_tests)

pub at_test : (P : Bool → Type 0) (b : Bool) → (b ≡ true → P true) → (b ≡ false → P false) → P b
at_test P true f g = f refl
at_test P false f g = g refl

-- ---- births behind others

abbrev pub or_else : {X : Type 0} → Option X → Option X → Option X
or_else None y = y
or_else (Some b) y = Some b

pub or_else-left : {X : Type 0} (p q : Option X) (b : X) → p ≡ Some b → or_else p q ≡ Some b
or_else-left None q b e = absurd (cc)
or_else-left (Some c) q b e = e

-- at either of two places
pub or_else-cases : {X : Type 0} (p q : Option X) (b : X) (R : Type 0) → or_else p q ≡ Some b → (p ≡ Some b → R) → (p ≡ None → q ≡ Some b → R) → R
or_else-cases None q b R e f g = g refl e
or_else-cases (Some c) q b R e f g = f e

pub birth_at-push : (xs : List Bearing) (x : Bearing) (o : Id) → birth_at (xs ++ x ∷ []) o ≡ or_else (birth_at xs o) (birth_at (x ∷ []) o)
birth_at-push [] x o = refl
birth_at-push (y ∷ xs) x o =
    let e = birth_at-push xs x o in
    at_test (λ t. (if t then Some y.birth else birth_at (xs ++ x ∷ []) o) ≡ or_else (if t then Some y.birth else birth_at xs o) (birth_at (x ∷ []) o))
    (same_id y.object o) (λ _. refl) (λ _. e)

pub part_at-push : (xs : List Bearing) (x : Bearing) (o : Id) → part_at (xs ++ x ∷ []) o ≡ or_else (part_at xs o) (part_at (x ∷ []) o)
part_at-push [] x o = refl
part_at-push (y ∷ xs) x o =
    let e = part_at-push xs x o in
    at_test (λ t. (if t then Some (part_of y o) else part_at (xs ++ x ∷ []) o) ≡ or_else (if t then Some (part_of y o) else part_at xs o) (part_at (x ∷ []) o))
    (is_made_by y o) (λ _. refl) (λ _. e)

-- ---- the objects of one birth

pub made_owner : (x : Bearing) (o : Id) → is_made_by x o ≡ true → x.object.owner ≡ o.owner
unfolding is_made_by
made_owner x o h = grind (arith, nat_tests)

pub made_from : (x : Bearing) (o : Id) → is_made_by x o ≡ true → x.object.serial ≤ o.serial
unfolding is_made_by
made_from x o h = grind (arith, nat_tests)

pub made_below : (x : Bearing) (o : Id) → is_made_by x o ≡ true → o.serial < x.object.serial + results_of x.birth
unfolding is_made_by
made_below x o h = grind (arith, nat_tests)

pub is_made : (x : Bearing) (o : Id) → x.object.owner ≡ o.owner → x.object.serial ≤ o.serial → o.serial < x.object.serial + results_of x.birth →
    is_made_by x o ≡ true
unfolding is_made_by
is_made x o e h k = grind (arith, nat_tests)

pub first_is_made : (x : Bearing) → is_made_by x x.object ≡ true
first_is_made x = is_made x x.object refl (omega arith) (omega arith)

-- a part is one of its birth's objects
pub part_is_made : (xs : List Bearing) (o : Id) (p : Part) → part_at xs o ≡ Some p → (is_made_by p.born o ≡ true) × (p ≡ part_of p.born o)
part_is_made [] o p e = absurd (cc)
part_is_made (x ∷ xs) o p e =
    let later = λ (f : part_at xs o ≡ Some p). part_is_made xs o p f in
    at_test (λ t. is_made_by x o ≡ t → (if t then Some (part_of x o) else part_at xs o) ≡ Some p →
    (part_at xs o ≡ Some p → (is_made_by p.born o ≡ true) × (p ≡ part_of p.born o)) →
    (is_made_by p.born o ≡ true) × (p ≡ part_of p.born o)) (is_made_by x o)
    (λ _ m f g. let same : part_of x o ≡ p = cc in subst (λ q. (is_made_by q.born o ≡ true) × (q ≡ part_of q.born o)) same (m, refl))
    (λ _ m f g. g f) refl e later

-- ---- one more birth, of new objects

module _ (xs : List Bearing) (x : Bearing) (fresh : IsNew xs x) where
  pub part_kept : (o : Id) (p : Part) → part_at xs o ≡ Some p → part_at (xs ++ x ∷ []) o ≡ Some p
  part_kept o p h = part_at-push xs x o ∙ or_else-left (part_at xs o) (part_at (x ∷ []) o) p h

  -- what is born now was born before, or is the new birth's
  pub part_by : (o : Id) (p : Part) (R : Id → Part → Type 0) → part_at (xs ++ x ∷ []) o ≡ Some p →
      (part_at xs o ≡ Some p → R o p) → (is_made_by x o ≡ true → R o (part_of x o)) → R o p
  part_by o p R e f g =
      or_else-cases (part_at xs o) (part_at (x ∷ []) o) p (R o p) (sym (part_at-push xs x o) ∙ e) f
      (λ _ e'. at_test (λ t. (if t then Some (part_of x o) else None) ≡ Some p → (t ≡ true → R o (part_of x o)) → R o p) (is_made_by x o)
      (λ t k l. let same_part : part_of x o ≡ p = cc in subst (λ q. R o q) same_part (l refl))
      (λ t k l. absurd (cc)) e' g)

  -- the new ones are born
  pub part_new : (o : Id) → is_made_by x o ≡ true → part_at (xs ++ x ∷ []) o ≡ Some (part_of x o)
  part_new o m =
      part_at-push xs x o
      ∙ ap (λ p. or_else p (part_at (x ∷ []) o)) (fresh o m)
      ∙ ap (λ t. if t then Some (part_of x o) else None) m

  module _ (grouped : AreGrouped xs) where
    -- nothing stood at its first object
    unborn_by : (p : Option Birth) → birth_at xs x.object ≡ p → p ≡ None
    unborn_by None e = refl
    unborn_by (Some b) e =
        let yes = grouped.whole x.object x.object b e (first_is_made (record { object = x.object; birth = b })) in
        let no = fresh x.object (first_is_made x) in
        absurd (cc)

    first_new : birth_at (xs ++ x ∷ []) x.object ≡ Some x.birth
    first_new =
        birth_at-push xs x x.object
        ∙ ap (λ p. or_else p (birth_at (x ∷ []) x.object)) (unborn_by (birth_at xs x.object) refl)
        ∙ ap (λ t. if t then Some x.birth else None) (same_id-refl x.object)

    all_firsts : (o : Id) (p : Part) → part_at (xs ++ x ∷ []) o ≡ Some p → birth_at (xs ++ x ∷ []) p.born.object ≡ Some p.born.birth
    all_firsts o p e = part_by o p (λ q c. birth_at (xs ++ x ∷ []) c.born.object ≡ Some c.born.birth) e
        (λ h. birth_at-push xs x p.born.object ∙ or_else-left (birth_at xs p.born.object) (birth_at (x ∷ []) p.born.object) p.born.birth (grouped.firsts o p h))
        (λ m. first_new)

    abbrev IsWhole : Id → Id → Birth → Type 0
    IsWhole q o b = is_made_by (record { object = o; birth = b }) q ≡ true → part_at (xs ++ x ∷ []) q ≡ Some (part_of (record { object = o; birth = b }) q)

    all_whole : (o q : Id) (b : Birth) → birth_at (xs ++ x ∷ []) o ≡ Some b → IsWhole q o b
    all_whole o q b e =
        or_else-cases (birth_at xs o) (birth_at (x ∷ []) o) b (IsWhole q o b) (sym (birth_at-push xs x o) ∙ e)
        (λ h m. part_kept q _ (grouped.whole o q b h m))
        (λ _ h. at_test (λ t. (if t then Some x.birth else None) ≡ Some b → (t ≡ true → x.object ≡ o) → IsWhole q o b) (same_id x.object o)
        (λ _ k f. let same_birth : x.birth ≡ b = cc in
        subst (λ (p : Id). IsWhole q p b) (f refl) (subst (λ (c : Birth). IsWhole q x.object c) same_birth (part_new q)))
        (λ _ k f. absurd (cc)) h (same_id-true x.object o))

    pub grouped_push : AreGrouped (xs ++ x ∷ [])
    grouped_push = record { firsts = all_firsts; whole = all_whole }

pub none_grouped : AreGrouped []
none_grouped = record { firsts = λ o p e. absurd (cc); whole = λ o q b e m. absurd (cc) }

module _ (x : Bearing) where
  -- a part of the birth's ids, behind so many others
  module _ (P : Id → Type 0) (all : (p : Id) → is_made_by x p ≡ true → P p) where
    some_named : (k n : ℕ) (o : Id) → x.object.owner ≡ o.owner → o.serial ≡ x.object.serial + k → k + n ≤ results_of x.birth →
        ValuesIn P (map Named (ids_from o n))
    some_named k zero o e f h = tt
    some_named k (suc n) o e f h =
        (all o (is_made x o e (omega (arith, f)) (omega (arith, f, h))), some_named (k + 1) n (next_id o) e (omega (arith, f)) (omega (arith, h)))

    -- whatever has its objects has its references
    pub names_in : ValuesIn P (named x.object x.birth)
    names_in = some_named 0 (results_of x.birth) x.object refl (omega arith) (omega arith)

  -- the ids' outcomes, where each stands for its result
  module _ (reading : Id → Outcome) (e : Completion) (all : (p : Id) → is_made_by x p ≡ true → reading p ≡ outcome_at (p.serial - x.object.serial) e) where
    some_outcomes : (k n : ℕ) (o : Id) (d : Completion) → x.object.owner ≡ o.owner → o.serial ≡ x.object.serial + k → k + n ≤ results_of x.birth →
        ((i : ℕ) → outcome_at (k + i) e ≡ outcome_at i d) → map reading (ids_from o n) ≡ outcomes n d
    some_outcomes k zero o d w f h same = refl
    some_outcomes k (suc n) o d w f h same =
        let at : o.serial - x.object.serial ≡ k + 0 = omega (arith, f) in
        let first = all o (is_made x o w (omega (arith, f)) (omega (arith, f, h))) ∙ ap (λ i. outcome_at i e) at ∙ same 0 in
        let others = some_outcomes (k + 1) n (next_id o) (without_first d) w (omega (arith, f)) (omega (arith, h))
        (λ i. let m : (k + 1) + i ≡ k + suc i = omega arith in ap (λ j. outcome_at j e) m ∙ same (suc i)) in
        cc

    pub outcomes_are : map reading (ids_from x.object (results_of x.birth)) ≡ outcomes (results_of x.birth) e
    outcomes_are =
        some_outcomes 0 (results_of x.birth) x.object e refl (omega arith) (omega arith) (λ i. let m : 0 + i ≡ i = omega arith in ap (λ j. outcome_at j e) m)
