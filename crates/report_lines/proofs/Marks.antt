-- A table with one more mark.
use Rattle.std.proofs.Common.{◌≡◌, ◌<◌, ℕ, Bool, true, false, ◌&&◌, ◌||◌, ◌==◌, List, [], ◌∷◌, get_or, length, zero, suc, refl, ap, ◌∙◌, sym, arith}
use Rattle.std.specs.Prelude.{nat_lt, slice_set, ◌+◌, ◌*◌}
use Rattle.std.proofs.lemmas.Bool.Decides.{nat_tests}
use Rattle.meaning.specs.Births.{same_id}
use Rattle.meaning.specs.Values.{Id}
use Rattle.report_lines.specs.Sets.{is_low, is_low_marked, is_set, low_place, row_of}

or-false : (b : Bool) → b ≡ (b || false)
or-false true = refl
or-false false = refl

no-mark : (b e t : Bool) → e ≡ false → b ≡ (b || (e && t))
no-mark b e t h = or-false b ∙ ap (λ x. b || (x && t)) (sym h)

suc-not-zero : (n : ℕ) → (suc n == zero) ≡ false
suc-not-zero n = grind (arith, nat_tests)

zero-not-suc : (n : ℕ) → (zero == suc n) ≡ false
zero-not-suc n = grind (arith, nat_tests)

sucs : (m n : ℕ) → (m == n) ≡ (suc m == suc n)
sucs m n = grind (arith, nat_tests)

-- a row with one more mark, in the place of the owner's row
row_written : (rows : List (List Bool)) (k j n s : ℕ) (row longer none : List Bool) → k < length rows → row ≡ get_or rows k none →
    ((m : ℕ) → is_set longer m ≡ (is_set row m || (m == s))) →
    is_set (row_of (slice_set rows k longer) j) n ≡ (is_set (row_of rows j) n || ((j == k) && (n == s)))
row_written [] k j n s row longer none l g h = absurd (omega arith)
row_written (z ∷ rows) zero zero n s row longer none l g h = h n ∙ ap (λ r. is_set r n || (n == s)) g
row_written (z ∷ rows) zero (suc j) n s row longer none l g h = no-mark (is_set (row_of rows j) n) (suc j == zero) (n == s) (suc-not-zero j)
row_written (z ∷ rows) (suc k) zero n s row longer none l g h = no-mark (is_set z n) (zero == suc k) (n == s) (zero-not-suc k)
row_written (z ∷ rows) (suc k) (suc j) n s row longer none l g h =
    row_written rows k j n s row longer none (omega arith) g h ∙ ap (λ x. is_set (row_of rows j) n || (x && (n == s))) (sucs j k)

pub row_written_in : (inside rows : List (List Bool)) (k j n s : ℕ) (row longer none : List Bool) → inside ≡ rows → k < length rows → row ≡ get_or inside k none →
    ((m : ℕ) → is_set longer m ≡ (is_set row m || (m == s))) →
    is_set (row_of (slice_set inside k longer) j) n ≡ (is_set (row_of rows j) n || ((j == k) && (n == s)))
row_written_in inside rows k j n s row longer none e l g h =
    ap (λ rs. is_set (row_of (slice_set rs k longer) j) n) e ∙ row_written rows k j n s row longer none l (g ∙ ap (λ rs. get_or rs k none) e) h

-- a row with no more marks, in the place of the owner's row
row_kept : (rows : List (List Bool)) (k j n : ℕ) (row longer none : List Bool) → k < length rows → row ≡ get_or rows k none →
    ((m : ℕ) → is_set longer m ≡ is_set row m) → is_set (row_of (slice_set rows k longer) j) n ≡ is_set (row_of rows j) n
row_kept [] k j n row longer none l g h = absurd (omega arith)
row_kept (z ∷ rows) zero zero n row longer none l g h = h n ∙ ap (λ r. is_set r n) g
row_kept (z ∷ rows) zero (suc j) n row longer none l g h = refl
row_kept (z ∷ rows) (suc k) zero n row longer none l g h = refl
row_kept (z ∷ rows) (suc k) (suc j) n row longer none l g h = row_kept rows k j n row longer none (omega arith) g h

pub row_kept_in : (inside rows : List (List Bool)) (k j n : ℕ) (row longer none : List Bool) → inside ≡ rows → k < length rows → row ≡ get_or inside k none →
    ((m : ℕ) → is_set longer m ≡ is_set row m) → is_set (row_of (slice_set inside k longer) j) n ≡ is_set (row_of rows j) n
row_kept_in inside rows k j n row longer none e l g h =
    ap (λ rs. is_set (row_of (slice_set rs k longer) j) n) e ∙ row_kept rows k j n row longer none l (g ∙ ap (λ rs. get_or rs k none) e) h

-- ---- the flat table of low serials

spread : (b s t : Bool) → (b && (s || t)) ≡ ((b && s) || (b && t))
spread true s t = refl
spread false s t = refl

-- places of low serials are equal where owners and serials are
one_place : (m n s t : ℕ) → nat_lt t 8 ≡ true → (nat_lt s 8 && ((m * 8 + s) == (n * 8 + t))) ≡ ((m == n) && (s == t))
one_place m n s t low = grind (arith, nat_tests, low)

same_place : (o x : Id) → nat_lt x.serial 8 ≡ true → (nat_lt o.serial 8 && (low_place o == low_place x)) ≡ same_id o x
unfolding same_id
same_place o x low = one_place o.owner x.owner o.serial x.serial low

pub low_marked : (old new : List Bool) (x : Id) → nat_lt x.serial 8 ≡ true → ((n : ℕ) → is_set new n ≡ (is_set old n || (n == low_place x))) → (o : Id) →
    is_low_marked new o ≡ (is_low_marked old o || same_id o x)
low_marked old new x low h o =
    ap (λ b. nat_lt o.serial 8 && b) (h (low_place o))
    ∙ spread (nat_lt o.serial 8) (is_set old (low_place o)) (low_place o == low_place x)
    ∙ ap (λ b. is_low_marked old o || b) (same_place o x low)

pub low_kept : (old new : List Bool) → ((n : ℕ) → is_set new n ≡ is_set old n) → (o : Id) → is_low_marked new o ≡ is_low_marked old o
low_kept old new h o = ap (λ b. nat_lt o.serial 8 && b) (h (low_place o))

right : (a b : Bool) → (a && b) ≡ true → b ≡ true
right true b h = h
right false b h = absurd cc

pub low_serial : (x : Id) → is_low x ≡ true → nat_lt x.serial 8 ≡ true
low_serial x h = right (nat_lt x.owner 4096) (nat_lt x.serial 8) h
