-- A text parted at a byte or behind a front is put together again, and parted so again.
use Rattle.std.proofs.Common.{◌≡◌, ◌≢◌, ℕ, zero, suc, ◌+◌, ◌-◌, ◌<◌, ◌≤◌, ◌^◌, Bool, true, false, List, [], ◌∷◌, ◌++◌, length, take, drop, get_or, Option, Some, None, refl, sym, ap, ◌∙◌, subst, arith}
use Rattle.std.specs.Prelude.{◌==◌, if◌then◌else◌, IfSome}
use Rattle.std.specs.Option.{option_map}
use Rattle.std.proofs.lemmas.Bool.Decides.{nat_tests}
use Rattle.std.proofs.lemmas.Bool.{eqb-true}
use Rattle.std.proofs.Common.{◌⊎◌, inl, inr}
use Rattle.std.specs.Fmt.{decimal}
use Rattle.std.specs.Int.{IsInRange}
use Rattle.std.proofs.lemmas.List.{take_all, length-drop}
use Rattle.std.proofs.lemmas.Fmt.{decimal_is_IsNumeral}
use Rattle.std.proofs.lemmas.Str.Parse.{digit_at}
use Rattle.event_files.specs.Reading.{pick, has, with_first, parted, behind}

-- what holds of the result on each way holds
pub pick_keeps : {A B : Type 0} (P : B → Type 0) (o : Option A) (f : A → Option B) (y : Option B) →
    ((x : A) → o ≡ Some x → IfSome (f x) P) → IfSome y P → IfSome (pick o f y) P
pick_keeps P None f y h k = k
pick_keeps P (Some x) f y h k = h x refl

pub map_keeps : {A B : Type 0} (P : B → Type 0) (o : Option A) (f : A → B) →
    ((x : A) → o ≡ Some x → P (f x)) → IfSome (option_map f o) P
map_keeps P None f h = tt
map_keeps P (Some x) f h = h x refl

-- ---- fronts

pub behind-append : (front bytes : List ℕ) → behind front (front ++ bytes) ≡ Some bytes
behind-append [] bytes = refl
behind-append (c ∷ front) bytes = let e : (c == c) ≡ true = grind (arith, nat_tests) in rw e (behind-append front bytes)

pub behind-is : (front bytes rest : List ℕ) → behind front bytes ≡ Some rest → bytes ≡ front ++ rest
behind-is [] bytes rest e = cc
behind-is (c ∷ front) [] rest e = cc
behind-is (c ∷ front) (b ∷ bytes) rest e = by_test (b == c) refl (behind-is front bytes rest) e
  where
    by_test : (t : Bool) → (b == c) ≡ t → (behind front bytes ≡ Some rest → bytes ≡ front ++ rest) →
        (if t then behind front bytes else None) ≡ Some rest → b ∷ bytes ≡ c ∷ (front ++ rest)
    by_test true k r h = let f : b ≡ c = eqb-true b c k in let g = r h in cc
    by_test false k r h = cc

-- ---- marks

pub parted-at : (mark : ℕ) (x y : List ℕ) → has mark x ≡ false → parted mark (x ++ mark ∷ y) ≡ Some (x, y)
parted-at mark [] y h = let e : (mark == mark) ≡ true = grind (arith, nat_tests) in rw e refl
parted-at mark (b ∷ x) y h = by_test (b == mark) (parted-at mark x y) h
  where
    by_test : (t : Bool) → (has mark x ≡ false → parted mark (x ++ mark ∷ y) ≡ Some (x, y)) → (if t then true else has mark x) ≡ false →
        (if t then Some ([], x ++ mark ∷ y) else with_first b (parted mark (x ++ mark ∷ y))) ≡ Some (b ∷ x, y)
    by_test true r f = cc
    by_test false r f = rw (r f) refl

pub parted-none : (mark : ℕ) (x : List ℕ) → has mark x ≡ false → parted mark x ≡ None
parted-none mark [] h = refl
parted-none mark (b ∷ x) h = by_test (b == mark) (parted-none mark x) h
  where
    by_test : (t : Bool) → (has mark x ≡ false → parted mark x ≡ None) → (if t then true else has mark x) ≡ false →
        (if t then Some ([], x) else with_first b (parted mark x)) ≡ None
    by_test true r f = cc
    by_test false r f = rw (r f) refl

pub record IsParted (mark : ℕ) (bytes : List ℕ) (x : List ℕ × List ℕ) : Type 0 where
  pub none_before : has mark x.0 ≡ false
  pub are : bytes ≡ x.0 ++ mark ∷ x.1

pub parted-is : (mark : ℕ) (bytes : List ℕ) → IfSome (parted mark bytes) (IsParted mark bytes)
parted-is mark [] = tt
parted-is mark (b ∷ bytes) = by_test (b == mark) refl (parted mark bytes) (parted-is mark bytes)
  where
    by_test : (t : Bool) → (b == mark) ≡ t → (r : Option (List ℕ × List ℕ)) → IfSome r (IsParted mark bytes) →
        IfSome (if t then Some ([], bytes) else with_first b r) (IsParted mark (b ∷ bytes))
    by_test true k r h = record { none_before = refl; are = ap (λ x. x ∷ bytes) (eqb-true b mark k) }
    by_test false k None h = tt
    by_test false k (Some x) h = record { none_before = rw k (h.none_before); are = ap (λ xs. b ∷ xs) h.are }

-- ---- reading up to a place

no_mark-cons : (mark b : ℕ) (bs : List ℕ) → b ≢ mark → has mark bs ≡ false → has mark (b ∷ bs) ≡ false
no_mark-cons mark b bs n h = let e : (b == mark) ≡ false = grind (arith, nat_tests) in ap (λ t. if t then true else has mark bs) e ∙ h

mark_cons : (mark b : ℕ) (bs : List ℕ) → has mark (b ∷ bs) ≡ false → (b ≢ mark) × (has mark bs ≡ false)
mark_cons mark b bs h = by_test (b == mark) refl h
  where
    by_test : (t : Bool) → (b == mark) ≡ t → (if t then true else has mark bs) ≡ false → (b ≢ mark) × (has mark bs ≡ false)
    by_test true e k = absurd (cc)
    by_test false e k = (λ z. grind (arith, nat_tests), k)

pub none_up_to : (mark : ℕ) (bs : List ℕ) (i : ℕ) → i < length bs → get_or bs i 0 ≢ mark → has mark (take i bs) ≡ false → has mark (take (i + 1) bs) ≡ false
none_up_to mark [] i l n h = absurd (omega arith)
none_up_to mark (b ∷ bs) zero l n h = no_mark-cons mark b [] n refl
none_up_to mark (b ∷ bs) (suc i) l n h =
    let k = mark_cons mark b (take i bs) h in
    let more : suc (i + 1) ≡ suc i + 1 = omega arith in
    subst (λ m. has mark (take m (b ∷ bs)) ≡ false) more (no_mark-cons mark b (take (i + 1) bs) k.0 (none_up_to mark bs i (omega arith) n k.1))

cut_at : (mark : ℕ) (bs : List ℕ) (i : ℕ) → i < length bs → get_or bs i 0 ≡ mark → bs ≡ take i bs ++ mark ∷ drop (i + 1) bs
cut_at mark [] i l e = absurd (omega arith)
cut_at mark (b ∷ bs) zero l e = ap (λ x. x ∷ bs) e
cut_at mark (b ∷ bs) (suc i) l e =
    let more : suc (i + 1) ≡ suc i + 1 = omega arith in
    subst (λ m. b ∷ bs ≡ take (suc i) (b ∷ bs) ++ mark ∷ drop m (b ∷ bs)) more (ap (λ xs. b ∷ xs) (cut_at mark bs i (omega arith) e))

pub parted_here : (mark : ℕ) (bs : List ℕ) (i : ℕ) → i < length bs → get_or bs i 0 ≡ mark → has mark (take i bs) ≡ false →
    parted mark bs ≡ Some (take i bs, take (length bs - (i + 1)) (drop (i + 1) bs))
parted_here mark bs i l e h =
    let all : take (length bs - (i + 1)) (drop (i + 1) bs) ≡ drop (i + 1) bs = take_all (length bs - (i + 1)) (drop (i + 1) bs) (let n = length-drop (i + 1) bs in omega arith) in
    ap (parted mark) (cut_at mark bs i l e) ∙ parted-at mark (take i bs) (drop (i + 1) bs) h ∙ ap (λ r. Some (take i bs, r)) (sym all)

pub parted_nowhere : (mark : ℕ) (bs : List ℕ) (i : ℕ) → length bs ≤ i → has mark (take i bs) ≡ false → parted mark bs ≡ None
parted_nowhere mark bs i l h = parted-none mark bs (subst (λ ds. has mark ds ≡ false) (take_all i bs l) h)

pub none-parted : (mark : ℕ) (bs : List ℕ) → parted mark bs ≡ None → has mark bs ≡ false
none-parted mark [] e = refl
none-parted mark (b ∷ bs) e = let r = none-parted mark bs in by_test (b == mark) (parted mark bs) r e
  where
    by_test : (t : Bool) (o : Option (List ℕ × List ℕ)) → (o ≡ None → has mark bs ≡ false) → (if t then Some ([], bs) else with_first b o) ≡ None → (if t then true else has mark bs) ≡ false
    by_test true o r k = cc
    by_test false None r k = r refl
    by_test false (Some x) r k = cc

pub has-append : (mark : ℕ) (xs ys : List ℕ) → has mark xs ≡ false → has mark ys ≡ false → has mark (xs ++ ys) ≡ false
has-append mark [] ys h k = k
has-append mark (x ∷ xs) ys h k = let m = mark_cons mark x xs h in no_mark-cons mark x (xs ++ ys) m.0 (has-append mark xs ys m.1 k)

same_given : (x y : List ℕ × List ℕ) → ◌≡◌ {A = Option (List ℕ × List ℕ)} (Some x) (Some y) → x ≡ y
same_given x y e = cc

-- a text is parted in one way
pub one_parting : (mark : ℕ) (a b c d : List ℕ) → has mark a ≡ false → has mark c ≡ false → a ++ mark ∷ b ≡ c ++ mark ∷ d → (a ≡ c) × (b ≡ d)
one_parting mark a b c d h k e =
    let f = same_given (a, b) (c, d) (sym (parted-at mark a b h) ∙ ap (parted mark) e ∙ parted-at mark c d k) in
    (ap (λ x. x.0) f, ap (λ x. x.1) f)

-- digits are no marks
no_mark_in_digits : (mark : ℕ) → mark < 48 → (bs : List ℕ) → ((i : ℕ) → i < length bs → IsInRange 48 57 (get_or bs i 0)) → has mark bs ≡ false
no_mark_in_digits mark m [] h = refl
no_mark_in_digits mark m (b ∷ bs) h =
    no_mark-cons mark b bs (λ e. let d = h 0 (omega arith) in omega (arith, d.0)) (no_mark_in_digits mark m bs (λ i l. h (suc i) (omega arith)))

pub no_mark_in_decimal : (mark n : ℕ) → mark < 48 → n < 2 ^ 64 → has mark (decimal n) ≡ false
no_mark_in_decimal mark n m h = no_mark_in_digits mark m (decimal n) (λ i l. digit_at (decimal n) i (decimal_is_IsNumeral n h).0.1 l)

-- ---- fronts, byte by byte

pub no_behind : (front bytes : List ℕ) (i : ℕ) → i < length front → (length bytes ≤ i) ⊎ (get_or bytes i 0 ≢ get_or front i 0) → behind front bytes ≡ None
no_behind [] bytes i l h = absurd (omega arith)
no_behind (c ∷ front) [] i l h = refl
no_behind (c ∷ front) (b ∷ bytes) zero l (inl h) = absurd (omega arith)
no_behind (c ∷ front) (b ∷ bytes) zero l (inr h) = let e : (b == c) ≡ false = grind (arith, nat_tests) in rw e refl
no_behind (c ∷ front) (b ∷ bytes) (suc i) l h =
    let r = no_behind front bytes i (omega arith) (elim h [ inl x ↦ inl (omega arith) | inr x ↦ inr x ]) in
    elim (b == c) as (λ t. (if t then behind front bytes else None) ≡ None) [ true ↦ r | false ↦ refl ]

pub behind_here : (front bytes : List ℕ) → length front ≤ length bytes → ((i : ℕ) → i < length front → get_or bytes i 0 ≡ get_or front i 0) → behind front bytes ≡ Some (drop (length front) bytes)
behind_here [] bytes l h = refl
behind_here (c ∷ front) [] l h = absurd (omega arith)
behind_here (c ∷ front) (b ∷ bytes) l h =
    let here : b ≡ c = h 0 (omega arith) in
    let e : (b == c) ≡ true = grind (arith, nat_tests) in
    rw e (behind_here front bytes (omega arith) (λ i k. h (suc i) (omega arith)))

pub behind_all : (front bytes : List ℕ) (i : ℕ) → length front ≤ length bytes → length front ≤ i → ((k : ℕ) → k < i → get_or bytes k 0 ≡ get_or front k 0) →
    behind front bytes ≡ Some (take (length bytes - length front) (drop (length front) bytes))
behind_all front bytes i l m h =
    let all : take (length bytes - length front) (drop (length front) bytes) ≡ drop (length front) bytes =
    take_all (length bytes - length front) (drop (length front) bytes) (let n = length-drop (length front) bytes in omega arith) in
    behind_here front bytes l (λ k n. h k (omega arith)) ∙ ap (λ r. Some r) (sym all)

pub no_behind_short : (front bytes : List ℕ) → length bytes < length front → behind front bytes ≡ None
no_behind_short front bytes l = no_behind front bytes (length bytes) l (inl (omega arith))

pub no_mark_has : (mark : ℕ) (xs ys : List ℕ) → has mark (xs ++ mark ∷ ys) ≡ false → ⊥
no_mark_has mark [] ys h = (mark_cons mark mark ys h).0 refl
no_mark_has mark (x ∷ xs) ys h = no_mark_has mark xs ys (mark_cons mark x (xs ++ mark ∷ ys) h).1
