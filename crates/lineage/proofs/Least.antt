-- The members of a plan are the least closed set.
use Rattle.std.proofs.Common.{◌≡◌, ℕ, zero, suc, ◌+◌, ◌<◌, ◌≤◌, ◌⊎◌, inl, inr, Bool, true, false, if◌then◌else◌, List, [], ◌∷◌, ◌++◌, Option, None, Some, Result, Ok, Err, refl, ap, arith, subst, sym, ◌∙◌}
use Rattle.std.specs.Prelude.{◌==◌, ◌||◌, nat_lt}
use Rattle.std.specs.List.{AllByRecursion, filter}
use Rattle.std.proofs.lemmas.Bool.Decides.{nat_tests}
use Rattle.meaning.specs.Values.{Id}
use Rattle.event_log.specs.Entries.{Fault}
use Rattle.meaning.proofs.BirthLaws.{at_test}
use Rattle.protocol.specs.Numbered.{item_at}
use Rattle.protocol.specs.Sets.{has, with_number}
use Rattle.protocol.specs.Tables.{Object}
use Rattle.protocol.specs.Steps.{WorkerContext, is_own}
use Rattle.protocol.specs.Recovery.{counted_from, first_stop, is_lost_at, is_lost_here, made_from, members, members_below, with_lost}
use Rattle.lineage.specs.Plans.{ArgumentsAreOlder, Ascends, CannotBeRemade, IsLeast, IsPlanned, IsRight, IsRightPlan, NoMemory, Plan, Stop, planned_by}

-- ---- what an answer has

abbrev serials_in : Result Plan Stop → List ℕ
serials_in (Ok p) = p.serials
serials_in (Err e) = []

abbrev fault_in : Fault → Result Plan Stop → Fault
fault_in other (Ok p) = other
fault_in other (Err (CannotBeRemade f)) = f
fault_in other (Err NoMemory) = other

-- ---- tests and numbers

or_first : (b c : Bool) → b ≡ true → (b || c) ≡ true
or_first true c e = refl
or_first false c e = absurd (cc)

or_second : (b c : Bool) → c ≡ true → (b || c) ≡ true
or_second true c e = refl
or_second false c e = e

or_cases : (b c : Bool) → (b || c) ≡ true → (b ≡ true) ⊎ (c ≡ true)
or_cases true c e = inl refl
or_cases false c e = inr e

same_number : (m n : ℕ) → (m == n) ≡ true → m ≡ n
same_number m n e = grind (arith, nat_tests)

equal_number : (n : ℕ) → (n == n) ≡ true
equal_number n = grind (arith, nat_tests)

next_or_later : (i j : ℕ) → i < j → (j ≡ suc i) ⊎ (suc i < j)
next_or_later i j l = at_test (λ b. nat_lt (suc i) j ≡ b → (j ≡ suc i) ⊎ (suc i < j)) (nat_lt (suc i) j) (λ _ e. inr (grind (arith, nat_tests))) (λ _ e. inl (grind (arith, nat_tests))) refl

all_map : (P Q : Id → Type 0) (os : List Id) → ((o : Id) → P o → Q o) → AllByRecursion P os → AllByRecursion Q os
all_map P Q [] f all = tt
all_map P Q (o ∷ os) f all = (f o all.0, all_map P Q os f all.1)

-- ---- a set with one more

has_more : (xs : List ℕ) (w v : ℕ) → has xs v ≡ true → has (xs ++ w ∷ []) v ≡ true
has_more [] w v e = absurd (cc)
has_more (x ∷ xs) w v e = elim (or_cases (x == v) (has xs v) e) [ inl f ↦ or_first (x == v) _ f | inr f ↦ or_second (x == v) _ (has_more xs w v f) ]

has_last : (xs : List ℕ) (w : ℕ) → has (xs ++ w ∷ []) w ≡ true
has_last [] w = or_first (w == w) false (equal_number w)
has_last (x ∷ xs) w = or_second (x == w) _ (has_last xs w)

has_new : (xs : List ℕ) (w v : ℕ) → has (xs ++ w ∷ []) v ≡ true → (has xs v ≡ true) ⊎ (w ≡ v)
has_new [] w v e = elim (or_cases (w == v) false e) [ inl f ↦ inr (same_number w v f) | inr f ↦ absurd (cc) ]
has_new (x ∷ xs) w v e = elim (or_cases (x == v) (has (xs ++ w ∷ []) v) e) [
  | inl f ↦ inl (or_first (x == v) (has xs v) f)
  | inr f ↦ elim (has_new xs w v f) [ inl g ↦ inl (or_second (x == v) (has xs v) g) | inr g ↦ inr g ]
]

kept_number : (ks : List ℕ) (n j : ℕ) → has ks j ≡ true → has (with_number ks n) j ≡ true
kept_number ks n j e = at_test (λ b. has (if b then ks else ks ++ n ∷ []) j ≡ true) (has ks n) (λ _. e) (λ _. has_more ks n j e)

there_number : (ks : List ℕ) (n : ℕ) → has (with_number ks n) n ≡ true
there_number ks n = at_test (λ b. has ks n ≡ b → has (if b then ks else ks ++ n ∷ []) n ≡ true) (has ks n) (λ _ e. e) (λ _ _. has_last ks n) refl

new_number : (ks : List ℕ) (n j : ℕ) → has (with_number ks n) j ≡ true → (has ks j ≡ true) ⊎ (n ≡ j)
new_number ks n j = at_test (λ b. has (if b then ks else ks ++ n ∷ []) j ≡ true → (has ks j ≡ true) ⊎ (n ≡ j)) (has ks n) (λ _ e. inl e) (λ _ e. has_new ks n j e)

module _ (h : WorkerContext) where
  abbrev lost : Id → Bool
  lost o = is_lost_here h o

  abbrev with_one : List ℕ → Id → List ℕ
  with_one ks o = if lost o then with_number ks o.serial else ks

  kept_one : (ks : List ℕ) (o : Id) (j : ℕ) → has ks j ≡ true → has (with_one ks o) j ≡ true
  kept_one ks o j e = at_test (λ b. has (if b then with_number ks o.serial else ks) j ≡ true) (lost o) (λ _. kept_number ks o.serial j e) (λ _. e)

  kept_lost : (os : List Id) (ks : List ℕ) (j : ℕ) → has ks j ≡ true → has (with_lost h os ks) j ≡ true
  kept_lost [] ks j e = e
  kept_lost (o ∷ os) ks j e = kept_lost os (with_one ks o) j (kept_one ks o j e)

  there_one : (ks : List ℕ) (o : Id) → lost o ≡ true → has (with_one ks o) o.serial ≡ true
  there_one ks o e = subst (λ b. has (if b then with_number ks o.serial else ks) o.serial ≡ true) (sym e) (there_number ks o.serial)

  there_lost : (os : List Id) (ks : List ℕ) → AllByRecursion (λ o. lost o ≡ true → has (with_lost h os ks) o.serial ≡ true) os
  there_lost [] ks = tt
  there_lost (o ∷ os) ks = ((λ e. kept_lost os (with_one ks o) o.serial (there_one ks o e)), there_lost os (with_one ks o))

  -- what is so of all, and of the lost ones that are added, is so of all then
  one_new : (P : ℕ → Type 0) (ks : List ℕ) (o : Id) → (lost o ≡ true → P o.serial) → ((j : ℕ) → has ks j ≡ true → P j) → (j : ℕ) → has (with_one ks o) j ≡ true → P j
  one_new P ks o new all j =
      at_test (λ b. lost o ≡ b → has (if b then with_number ks o.serial else ks) j ≡ true → P j) (lost o)
      (λ _ t e. elim (new_number ks o.serial j e) [ inl f ↦ all j f | inr f ↦ subst P f (new t) ]) (λ _ _ e. all j e) refl

  all_lost : (P : ℕ → Type 0) (os : List Id) (ks : List ℕ) → AllByRecursion (λ o. lost o ≡ true → P o.serial) os → ((j : ℕ) → has ks j ≡ true → P j) → (j : ℕ) → has (with_lost h os ks) j ≡ true → P j
  all_lost P [] ks new all = all
  all_lost P (o ∷ os) ks new all = all_lost P os (with_one ks o) new.1 (one_new P ks o new.0 all)

  -- ---- from the youngest down

  abbrev turn : ℕ → List ℕ → List ℕ
  turn k ks = if has ks k then with_lost h (made_from h k) ks else ks

  kept_turn : (k : ℕ) (ks : List ℕ) (j : ℕ) → has ks j ≡ true → has (turn k ks) j ≡ true
  kept_turn k ks j e = at_test (λ b. has (if b then with_lost h (made_from h k) ks else ks) j ≡ true) (has ks k) (λ _. kept_lost (made_from h k) ks j e) (λ _. e)

  kept_below : (i : ℕ) (ks : List ℕ) (j : ℕ) → has ks j ≡ true → has (members_below h i ks) j ≡ true
  kept_below zero ks j e = e
  kept_below (suc i) ks j e = kept_below i (turn (suc i) ks) j (kept_turn (suc i) ks j e)

  all_turn : (P : ℕ → Type 0) → ((k : ℕ) → P k → AllByRecursion (λ o. lost o ≡ true → P o.serial) (made_from h k)) → (k : ℕ) (ks : List ℕ) → ((j : ℕ) → has ks j ≡ true → P j) → (j : ℕ) → has (turn k ks) j ≡ true → P j
  all_turn P closed k ks all j =
      at_test (λ b. has ks k ≡ b → has (if b then with_lost h (made_from h k) ks else ks) j ≡ true → P j) (has ks k)
      (λ _ t. all_lost P (made_from h k) ks (closed k (all k t)) all j) (λ _ _. all j) refl

  all_below : (P : ℕ → Type 0) → ((k : ℕ) → P k → AllByRecursion (λ o. lost o ≡ true → P o.serial) (made_from h k)) → (i : ℕ) (ks : List ℕ) → ((j : ℕ) → has ks j ≡ true → P j) → (j : ℕ) → has (members_below h i ks) j ≡ true → P j
  all_below P closed zero ks all = all
  all_below P closed (suc i) ks all = all_below P closed i (turn (suc i) ks) (all_turn P closed (suc i) ks all)

  -- of those above a serial, the lost arguments are there
  abbrev ClosedAbove : ℕ → List ℕ → Type 0
  ClosedAbove i ks = (j : ℕ) → i < j → has ks j ≡ true → AllByRecursion (λ o. lost o ≡ true → has ks o.serial ≡ true) (made_from h j)

  module _ (older : ArgumentsAreOlder h) where
    taken : (i : ℕ) (ks : List ℕ) → ClosedAbove (suc i) ks → ClosedAbove i (with_lost h (made_from h (suc i)) ks)
    taken i ks above j less e =
        let os = made_from h (suc i) in
        let P : ℕ → Type 0 = λ n. (has ks n ≡ true) ⊎ (n < suc i) in
        let young : P j = all_lost P os ks (all_map (λ o. lost o ≡ true → o.serial < suc i) (λ o. lost o ≡ true → P o.serial) os (λ o f t. inr (f t)) (older (suc i))) (λ n t. inl t) j e in
        let was : has ks j ≡ true = elim young [ inl t ↦ t | inr t ↦ absurd (omega (arith, t, less)) ] in
        elim (next_or_later i j less) [
          | inl same ↦ subst (λ n. AllByRecursion (λ o. lost o ≡ true → has (with_lost h os ks) o.serial ≡ true) (made_from h n)) (sym same) (there_lost os ks)
          | inr later ↦ all_map (λ o. lost o ≡ true → has ks o.serial ≡ true) (λ o. lost o ≡ true → has (with_lost h os ks) o.serial ≡ true) (made_from h j) (λ o f t. kept_lost os ks o.serial (f t)) (above j later was)
        ]

    passed : (i : ℕ) (ks : List ℕ) → has ks (suc i) ≡ false → ClosedAbove (suc i) ks → ClosedAbove i ks
    passed i ks out above j less e = elim (next_or_later i j less) [
      | inl same ↦ absurd (let f = ap (has ks) same in cc)
      | inr later ↦ above j later e
    ]

    turned : (i : ℕ) (ks : List ℕ) → ClosedAbove (suc i) ks → ClosedAbove i (turn (suc i) ks)
    turned i ks above =
        at_test (λ b. has ks (suc i) ≡ b → ClosedAbove i (if b then with_lost h (made_from h (suc i)) ks else ks)) (has ks (suc i))
        (λ _ _. taken i ks above) (λ _ e. passed i ks e above) refl

    closed_below : (i : ℕ) (ks : List ℕ) → ClosedAbove i ks → ClosedAbove 0 (members_below h i ks)
    closed_below zero ks above = above
    closed_below (suc i) ks above = closed_below i (turn (suc i) ks) (turned i ks above)

  -- ---- the members

  lost_there : (b : Bool) (xs : List Object) (n : ℕ) → is_lost_at xs (if b then item_at xs n else None) ≡ true → 1 ≤ n
  lost_there true xs zero e = absurd (cc)
  lost_there true xs (suc n) e = omega arith
  lost_there false xs n e = absurd (cc)

  in_order : (t : ℕ → Bool) (low n j : ℕ) → low ≤ j → j < low + n → t j ≡ true → has (filter t (counted_from low n)) j ≡ true
  in_order t low zero j a b e = absurd (omega (arith, a, b))
  in_order t low (suc n) j a b e =
      at_test (λ c. (low == j) ≡ c → has (filter t (counted_from low (suc n))) j ≡ true) (low == j)
      (λ _ f.
      let same = same_number low j f in
      let at : t low ≡ true = ap t same ∙ e in
      subst (λ c. has (if c then low ∷ filter t (counted_from (low + 1) n) else filter t (counted_from (low + 1) n)) j ≡ true) (sym at) (or_first (low == j) _ f))
      (λ _ f.
      let apart : low < j = grind (arith, nat_tests) in
      let rest = in_order t (low + 1) n j (omega (arith, apart)) (omega (arith, b)) e in
      at_test (λ c. has (if c then low ∷ filter t (counted_from (low + 1) n) else filter t (counted_from (low + 1) n)) j ≡ true) (t low)
      (λ _. or_second (low == j) _ rest) (λ _. rest)) refl

  of_filter : (t : ℕ → Bool) (xs : List ℕ) (j : ℕ) → has (filter t xs) j ≡ true → t j ≡ true
  of_filter t [] j e = absurd (cc)
  of_filter t (x ∷ xs) j e =
      at_test (λ c. t x ≡ c → has (if c then x ∷ filter t xs else filter t xs) j ≡ true → t j ≡ true) (t x)
      (λ _ f g. elim (or_cases (x == j) (has (filter t xs) j) g) [ inl i ↦ ap t (sym (same_number x j i)) ∙ f | inr i ↦ of_filter t xs j i ])
      (λ _ _ g. of_filter t xs j g) refl e

  ascends_below : (low high : ℕ) (ks : List ℕ) → low ≤ high → Ascends high ks → Ascends low ks
  ascends_below low high [] l a = tt
  ascends_below low high (k ∷ ks) l a = (let b = a.0 in omega (arith, l, b), a.1)

  ascending : (t : ℕ → Bool) (low n : ℕ) → Ascends low (filter t (counted_from low n))
  ascending t low zero = tt
  ascending t low (suc n) =
      let rest = ascending t (low + 1) n in
      at_test (λ b. Ascends low (if b then low ∷ filter t (counted_from (low + 1) n) else filter t (counted_from (low + 1) n))) (t low)
      (λ _. (omega arith, rest)) (λ _. ascends_below low (low + 1) _ (omega arith) rest)

  module _ (k : ℕ) (older : ArgumentsAreOlder h) (from_one : 1 ≤ k) where
    abbrev all : List ℕ
    all = members_below h k (k ∷ [])

    only : (j : ℕ) → has (k ∷ []) j ≡ true → k ≡ j
    only j e = elim (or_cases (k == j) false e) [ inl f ↦ same_number k j f | inr f ↦ absurd (cc) ]

    in_range : (j : ℕ) → has all j ≡ true → (1 ≤ j) × (j ≤ k)
    in_range =
        all_below (λ j. (1 ≤ j) × (j ≤ k))
        (λ i r. all_map (λ o. lost o ≡ true → o.serial < i) (λ o. lost o ≡ true → (1 ≤ o.serial) × (o.serial ≤ k)) (made_from h i)
        (λ o f t. (lost_there (is_own h o) h.worker.objects o.serial t, let a = f t in let b = r.1 in omega (arith, a, b))) (older i))
        k (k ∷ []) (λ j e. let same = only j e in (omega (arith, from_one, same), omega (arith, same)))

    to_members : (j : ℕ) → has all j ≡ true → has (members h k) j ≡ true
    to_members j e = let r = in_range j e in let a = r.0 in let b = r.1 in in_order (has all) 1 k j a (omega (arith, b)) e

    of_members : (j : ℕ) → has (members h k) j ≡ true → has all j ≡ true
    of_members j e = of_filter (has all) (counted_from 1 k) j e

    nothing_above : ClosedAbove k (k ∷ [])
    nothing_above j less e = let same = only j e in absurd (omega (arith, less, same))

    pub are_least : IsLeast h k (members h k)
    are_least = record {
      there = to_members k (kept_below k (k ∷ []) k (or_first (k == k) false (equal_number k)));
      closed = λ j e.
          let m = of_members j e in
          let r = in_range j m in
          let a = r.0 in
          all_map (λ o. lost o ≡ true → has all o.serial ≡ true) (λ o. lost o ≡ true → has (members h k) o.serial ≡ true) (made_from h j) (λ o f t. to_members o.serial (f t))
          (closed_below older k (k ∷ []) nothing_above j (omega (arith, a)) m);
      least = λ p at closed j e. all_below (λ n. p n ≡ true) closed k (k ∷ []) (λ n f. subst (λ m. p m ≡ true) (only n f) at) j (of_members j e);
      ordered = ascending (has all) 1 k;
    }

-- what was planned by a set has the set, which nothing stops; or the first stop of it
by_plan : (h : WorkerContext) (k : ℕ) (ks : List ℕ) (p : Plan) (f : Option Fault) → IsLeast h k ks → first_stop h ks ≡ f → Ok p ≡ planned_by ks f → IsRight h k (Ok p)
by_plan h k ks p None least stop e =
    let same : p.serials ≡ ks = ap (λ r. serials_in r) e in
    subst (λ ks. IsLeast h k ks × (first_stop h ks ≡ None)) (sym same) (least, stop)
by_plan h k ks p (Some f) least stop e = absurd (cc)

by_stop : (h : WorkerContext) (k : ℕ) (ks : List ℕ) (g : Fault) (f : Option Fault) → IsLeast h k ks → first_stop h ks ≡ f → Err (CannotBeRemade g) ≡ planned_by ks f →
    IsRight h k (Err (CannotBeRemade g))
by_stop h k ks g None least stop e = absurd (cc)
by_stop h k ks g (Some f) least stop e = (ks, least, stop ∙ ap Some (sym (ap (fault_in g) e)))

pub is_right_plan : (h : WorkerContext) (k : ℕ) (r : Result Plan Stop) → IsPlanned h k r → IsRightPlan h k r
is_right_plan h k (Ok p) e older from_one = by_plan h k (members h k) p (first_stop h (members h k)) (are_least h k older from_one) refl e
is_right_plan h k (Err (CannotBeRemade f)) e older from_one = by_stop h k (members h k) f (first_stop h (members h k)) (are_least h k older from_one) refl e
is_right_plan h k (Err NoMemory) e older from_one = tt
