-- The objects to make again are the least closed set.
use Rattle.std.proofs.Common.{◌≡◌, ℕ, zero, suc, ◌+◌, ◌≤◌, ◌<◌, Bool, true, false, List, [], ◌∷◌, ◌++◌, Some, None, inl, inr, refl, sym, ap, subst, arith}
use Rattle.std.specs.Prelude.{◌==◌, ◌||◌, ◌⊎◌, if◌then◌else◌}
use Rattle.std.specs.List.{filter}
use Rattle.std.proofs.lemmas.Bool.Decides.{nat_tests}
use Rattle.sequence.proofs.Places.{list_any-push_left, list_any-push_right}
use Rattle.protocol_data.specs.of_meaning.Values.{Id}
use Rattle.protocol_data.proofs.of_meaning.BirthLaws.{at_test}
use Rattle.protocol_data.specs.of_event_log.Breaks.{Among}
use Rattle.protocol.specs.Numbered.{item_at}
use Rattle.protocol.specs.Sets.{has, with_number}
use Rattle.protocol.specs.Steps.{WorkerContext, is_own}
use Rattle.protocol.specs.Recovery.{counted_from, is_lost_at, is_lost_here, made_from, members, members_below, with_lost}
use Rattle.protocol.specs.Laws.{AreOlder, IsClosed, IsLostArgument}

same_number : (m n : ℕ) → (m == n) ≡ true → m ≡ n
same_number m n e = grind (arith, nat_tests)

itself : (n : ℕ) → (n == n) ≡ true
itself n = grind (arith, nat_tests)

-- ---- sets of numbers

only_one : (i j : ℕ) → has (i ∷ []) j ≡ true → i ≡ j
only_one i j e = same_number i j (one (i == j) e)
  where
    one : (b : Bool) → (b || false) ≡ true → b ≡ true
    one true g = refl
    one false g = absurd (cc)

has_with : (ks : List ℕ) (i j : ℕ) → has (with_number ks i) j ≡ true → (has ks j ≡ true) ⊎ (i ≡ j)
has_with ks i j e = at_test (λ b. has (if b then ks else ks ++ i ∷ []) j ≡ true → (has ks j ≡ true) ⊎ (i ≡ j)) (has ks i) (λ b g. inl g) (λ b g. last ks g) e
  where
    last : (xs : List ℕ) → has (xs ++ i ∷ []) j ≡ true → (has xs j ≡ true) ⊎ (i ≡ j)
    last [] g = inr (only_one i j g)
    last (x ∷ xs) g = at_test (λ b. (b || has (xs ++ i ∷ []) j) ≡ true → ((b || has xs j) ≡ true) ⊎ (i ≡ j)) (x == j) (λ b g'. inl refl) (λ b g'. last xs g') g

has_kept : (ks : List ℕ) (i j : ℕ) → has ks j ≡ true → has (with_number ks i) j ≡ true
has_kept ks i j e = at_test (λ b. has (if b then ks else ks ++ i ∷ []) j ≡ true) (has ks i) (λ b. e) (λ b. list_any-push_left (λ y. y == j) ks i e)

has_new : (ks : List ℕ) (i : ℕ) → has (with_number ks i) i ≡ true
has_new ks i = at_test (λ b. has ks i ≡ b → has (if b then ks else ks ++ i ∷ []) i ≡ true) (has ks i) (λ b g. g) (λ b g. list_any-push_right (λ y. y == i) ks i (itself i)) refl

has_filtered : (p : ℕ → Bool) (xs : List ℕ) (j : ℕ) → has (filter p xs) j ≡ true → (p j ≡ true) × (has xs j ≡ true)
has_filtered p [] j e = absurd (cc)
has_filtered p (x ∷ xs) j e =
    at_test (λ b. p x ≡ b → has (if b then x ∷ filter p xs else filter p xs) j ≡ true → (p j ≡ true) × (((x == j) || has xs j) ≡ true)) (p x)
    (λ b g f.
    at_test (λ c. (x == j) ≡ c → (c || has (filter p xs) j) ≡ true → (p j ≡ true) × ((c || has xs j) ≡ true)) (x == j)
    (λ c t r. (subst (λ (n : ℕ). p n ≡ true) (same_number x j t) g, refl))
    (λ c t r. has_filtered p xs j r) refl f)
    (λ b g f. let r = has_filtered p xs j f in (r.0, at_test (λ c. (c || has xs j) ≡ true) (x == j) (λ c. refl) (λ c. r.1))) refl e

filtered_has : (p : ℕ → Bool) (xs : List ℕ) (j : ℕ) → p j ≡ true → has xs j ≡ true → has (filter p xs) j ≡ true
filtered_has p [] j g e = absurd (cc)
filtered_has p (x ∷ xs) j g e =
    at_test (λ b. p x ≡ b → has (if b then x ∷ filter p xs else filter p xs) j ≡ true) (p x)
    (λ b f.
    at_test (λ c. (c || has xs j) ≡ true → (c || has (filter p xs) j) ≡ true) (x == j) (λ c r. refl) (λ c r. filtered_has p xs j g r) e)
    (λ b f.
    at_test (λ c. (x == j) ≡ c → (c || has xs j) ≡ true → has (filter p xs) j ≡ true) (x == j)
    (λ c t r. let same : p j ≡ false = subst (λ (n : ℕ). p n ≡ false) (same_number x j t) f in absurd (cc))
    (λ c t r. filtered_has p xs j g r) refl e) refl

counted_below : (c n j : ℕ) → has (counted_from c n) j ≡ true → (c ≤ j) × (j < c + n)
counted_below c zero j e = absurd (cc)
counted_below c (suc n) j e =
    at_test (λ b. (c == j) ≡ b → (b || has (counted_from (c + 1) n) j) ≡ true → (c ≤ j) × (j < c + suc n)) (c == j)
    (λ b t g. let same = same_number c j t in (omega (arith, same), omega (arith, same)))
    (λ b t g. let r = counted_below (c + 1) n j g in let a = r.0 in let d = r.1 in (omega (arith, a), omega (arith, d))) refl e

below_counted : (c n j : ℕ) → c ≤ j → j < c + n → has (counted_from c n) j ≡ true
below_counted c zero j a b = absurd (omega (arith, a, b))
below_counted c (suc n) j a b =
    at_test (λ t. (c == j) ≡ t → (t || has (counted_from (c + 1) n) j) ≡ true) (c == j) (λ t e. refl)
    (λ t e. let more : c + 1 ≤ j = grind (arith, nat_tests) in below_counted (c + 1) n j more (omega (arith, b))) refl

-- ---- the members

module _ (h : WorkerContext) where
  lost_is_numbered : (o : Id) → is_lost_here h o ≡ true → 1 ≤ o.serial
  lost_is_numbered o e = at_own (is_own h o) o.serial e
    where
      at_own : (b : Bool) (n : ℕ) → is_lost_at h.worker.objects (if b then item_at h.worker.objects n else None) ≡ true → 1 ≤ n
      at_own true zero g = absurd (cc)
      at_own true (suc n) g = omega arith
      at_own false n g = absurd (cc)

  -- what is added is a lost argument
  with_lost_least : (P : ℕ → Type 0) (os : List Id) → ((o : Id) → Among o os → is_lost_here h o ≡ true → P o.serial) → (ks : List ℕ) → ((j : ℕ) → has ks j ≡ true → P j) → (j : ℕ) → has (with_lost h os ks) j ≡ true → P j
  with_lost_least P [] each ks all j e = all j e
  with_lost_least P (o ∷ os) each ks all j e =
      at_test (λ t. is_lost_here h o ≡ t → has (with_lost h os (if t then with_number ks o.serial else ks)) j ≡ true → P j) (is_lost_here h o)
      (λ t g f. with_lost_least P os (λ z a l. each z (suc a.0, a.1) l) (with_number ks o.serial)
      (λ i r. elim (has_with ks o.serial i r) [ inl old ↦ all i old | inr new ↦ subst (λ (n : ℕ). P n) new (each o (0, refl) g) ]) j f)
      (λ t g f. with_lost_least P os (λ z a l. each z (suc a.0, a.1) l) ks all j f) refl e

  with_lost_keeps : (os : List Id) (ks : List ℕ) (j : ℕ) → has ks j ≡ true → has (with_lost h os ks) j ≡ true
  with_lost_keeps [] ks j e = e
  with_lost_keeps (o ∷ os) ks j e =
      at_test (λ t. has (with_lost h os (if t then with_number ks o.serial else ks)) j ≡ true) (is_lost_here h o)
      (λ t. with_lost_keeps os (with_number ks o.serial) j (has_kept ks o.serial j e)) (λ t. with_lost_keeps os ks j e)

  with_lost_adds : (os : List Id) (ks : List ℕ) (o : Id) → Among o os → is_lost_here h o ≡ true → has (with_lost h os ks) o.serial ≡ true
  with_lost_adds [] ks o (k, e) l = absurd (cc)
  with_lost_adds (p ∷ os) ks o (zero, e) l =
      let same : Some p ≡ Some o = e in
      let it : p ≡ o = cc in
      at_test (λ t. is_lost_here h p ≡ t → has (with_lost h os (if t then with_number ks p.serial else ks)) o.serial ≡ true) (is_lost_here h p)
      (λ t g. subst (λ (z : Id). has (with_lost h os (with_number ks p.serial)) z.serial ≡ true) it (with_lost_keeps os (with_number ks p.serial) p.serial (has_new ks p.serial)))
      (λ t g. let there : is_lost_here h p ≡ true = subst (λ (z : Id). is_lost_here h z ≡ true) (sym it) l in absurd (cc)) refl
  with_lost_adds (p ∷ os) ks o (suc k, e) l =
      at_test (λ t. has (with_lost h os (if t then with_number ks p.serial else ks)) o.serial ≡ true) (is_lost_here h p)
      (λ t. with_lost_adds os (with_number ks p.serial) o (k, e) l) (λ t. with_lost_adds os ks o (k, e) l)

  -- the same of any property of serials
  abbrev Closed : (ℕ → Type 0) → Type 0
  Closed P = (i : ℕ) (o : Id) → P i → IsLostArgument h i o → P o.serial

  abbrev stepped : ℕ → List ℕ → List ℕ
  stepped i ks = if has ks i then with_lost h (made_from h i) ks else ks

  stepped_least : (P : ℕ → Type 0) → Closed P → (i : ℕ) (ks : List ℕ) → ((j : ℕ) → has ks j ≡ true → P j) → (j : ℕ) → has (stepped i ks) j ≡ true → P j
  stepped_least P closed i ks all =
      at_test (λ b. has ks i ≡ b → (j : ℕ) → has (if b then with_lost h (made_from h i) ks else ks) j ≡ true → P j) (has ks i)
      (λ b e. with_lost_least P (made_from h i) (λ o a l. closed i o (all i e) (record { argument = a; lost = l })) ks all) (λ b e. all) refl

  stepped_keeps : (i : ℕ) (ks : List ℕ) (j : ℕ) → has ks j ≡ true → has (stepped i ks) j ≡ true
  stepped_keeps i ks j e = at_test (λ b. has (if b then with_lost h (made_from h i) ks else ks) j ≡ true) (has ks i) (λ b. with_lost_keeps (made_from h i) ks j e) (λ b. e)

  below_least : (P : ℕ → Type 0) → Closed P → (n : ℕ) (ks : List ℕ) → ((j : ℕ) → has ks j ≡ true → P j) → (j : ℕ) → has (members_below h n ks) j ≡ true → P j
  below_least P closed zero ks all = all
  below_least P closed (suc n) ks all = below_least P closed n (stepped (suc n) ks) (stepped_least P closed (suc n) ks all)

  below_keeps : (n : ℕ) (ks : List ℕ) (j : ℕ) → has ks j ≡ true → has (members_below h n ks) j ≡ true
  below_keeps zero ks j e = e
  below_keeps (suc n) ks j e = below_keeps n (stepped (suc n) ks) j (stepped_keeps (suc n) ks j e)

  module _ (older : AreOlder h) where
    -- a step at i adds only what is older than i
    stepped_old : (i : ℕ) (ks : List ℕ) (j : ℕ) → i ≤ j → has (stepped i ks) j ≡ true → has ks j ≡ true
    stepped_old i ks j b e =
        elim (at_test (λ t. has ks i ≡ t → has (if t then with_lost h (made_from h i) ks else ks) j ≡ true → (has ks j ≡ true) ⊎ (j < i)) (has ks i)
        (λ t g f. with_lost_least (λ m. (has ks m ≡ true) ⊎ (m < i)) (made_from h i) (λ o a l. inr (older i o (record { argument = a; lost = l }))) ks (λ m r. inl r) j f)
        (λ t g f. inl f) refl e) [
          | inl old ↦ old
          | inr less ↦ absurd (omega (arith, b, less))
        ]

    below_old : (n : ℕ) (ks : List ℕ) (j : ℕ) → n ≤ j → has (members_below h n ks) j ≡ true → has ks j ≡ true
    below_old zero ks j b e = e
    below_old (suc n) ks j b e = stepped_old (suc n) ks j b (below_old n (stepped (suc n) ks) j (omega (arith, b)) e)

    below_closed : (n : ℕ) (ks : List ℕ) (i : ℕ) (o : Id) → 1 ≤ i → i ≤ n → has (members_below h n ks) i ≡ true → IsLostArgument h i o → has (members_below h n ks) o.serial ≡ true
    below_closed zero ks i o a b e l = absurd (omega (arith, a, b))
    below_closed (suc n) ks i o a b e l =
        at_test (λ t. (i == suc n) ≡ t → has (members_below h n (stepped (suc n) ks)) o.serial ≡ true) (i == suc n)
        (λ t g. let same = same_number i (suc n) g in
        let there : has ks i ≡ true = stepped_old (suc n) ks i (omega (arith, same)) (below_old n (stepped (suc n) ks) i (omega (arith, same)) e) in
        below_keeps n (stepped (suc n) ks) o.serial
        (subst (λ (m : ℕ). has (stepped m ks) o.serial ≡ true) same
        (at_test (λ d. has ks i ≡ d → has (if d then with_lost h (made_from h i) ks else ks) o.serial ≡ true) (has ks i)
        (λ d r. with_lost_adds (made_from h i) ks o l.argument l.lost) (λ d r. absurd (cc)) refl)))
        (λ t g. let less : i ≤ n = grind (arith, nat_tests) in below_closed n (stepped (suc n) ks) i o a less e l) refl

  pub has_it : (k : ℕ) → 1 ≤ k → has (members h k) k ≡ true
  has_it k b =
      filtered_has (has (members_below h k (k ∷ []))) (counted_from 1 k) k
      (below_keeps k (k ∷ []) k (ap (λ c. c || false) (itself k))) (below_counted 1 k k b (omega arith))

  pub closed : (k : ℕ) → AreOlder h → IsClosed h (has (members h k))
  closed k older i o m l =
      let r = has_filtered (has (members_below h k (k ∷ []))) (counted_from 1 k) i m in
      let b = counted_below 1 k i r.1 in
      let low = b.0 in
      let high = b.1 in
      let less = older i o l in
      filtered_has (has (members_below h k (k ∷ []))) (counted_from 1 k) o.serial
      (below_closed older k (k ∷ []) i o low (omega (arith, high)) r.0 l)
      (below_counted 1 k o.serial (lost_is_numbered o l.lost) (omega (arith, high, less)))

  pub least : (k : ℕ) (these : ℕ → Bool) → these k ≡ true → IsClosed h these → (i : ℕ) → has (members h k) i ≡ true → these i ≡ true
  least k these first c i m =
      below_least (λ n. these n ≡ true) c k (k ∷ []) (λ j e. subst (λ (n : ℕ). these n ≡ true) (only_one k j e) first) i
      (has_filtered (has (members_below h k (k ∷ []))) (counted_from 1 k) i m).0
