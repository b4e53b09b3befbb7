-- References to a run's results, one after another.
use Rattle.std.proofs.Common.{◌≡◌, ℕ, zero, suc, ◌+◌, ◌-◌, ◌<◌, ◌≤◌, List, [], ◌∷◌, ◌++◌, map, drop, length, sym, ap, ◌∙◌, refl, arith, add-one, append_assoc, append-nil}
use Rattle.meaning.specs.Values as meant
use Rattle.meaning.specs.Values.{Known, Completion, Returned, Trapped, first_outcome, without_first, outcomes}
use Rattle.frames.specs.Values.{value_of}
use Rattle.frames.specs.declared.value.Value.{Value}

map_snoc : {A B : Type 0} (f : A → B) (xs : List A) (x : A) → map f (xs ++ x ∷ []) ≡ map f xs ++ f x ∷ []
map_snoc f [] x = refl
map_snoc f (y ∷ ys) x = ap (λ zs. f y ∷ zs) (map_snoc f ys x)

-- without the first of those that are left
without_one : (vs : List Value) (i : ℕ) → without_first (Returned (map value_of (drop i vs))) ≡ Returned (map value_of (drop (suc i) vs))
without_one [] zero = refl
without_one [] (suc i) = refl
without_one (v ∷ vs) zero = refl
without_one (v ∷ vs) (suc i) = without_one vs i

pub without_next : (vs : List Value) (i : ℕ) → without_first (Returned (map value_of (drop i vs))) ≡ Returned (map value_of (drop (i + 1) vs))
without_next vs i = rw add-one (without_one vs i)

-- none is left
pub none_left : (vs : List Value) (i : ℕ) → length vs ≤ i → first_outcome (Returned (map value_of (drop i vs))) ≡ Trapped meant.Broken
none_left [] zero h = refl
none_left [] (suc i) h = refl
none_left (v ∷ vs) zero h = absurd (omega arith)
none_left (v ∷ vs) (suc i) h = none_left vs i (omega arith)

-- one reference more, and then those that are left
pub references_next : (rs more : List Value) (v : Value) (now next : Completion) (count counter : ℕ) (whole : List meant.Value) → counter < count →
    more ≡ rs ++ v ∷ [] → value_of v ≡ Known (first_outcome now) → without_first now ≡ next →
    map value_of rs ++ map Known (outcomes (count - counter) now) ≡ whole →
    map value_of more ++ map Known (outcomes (count - (counter + 1)) next) ≡ whole
references_next rs more v now next count counter whole h pushed is follows e =
    let left : count - counter ≡ suc (count - (counter + 1)) = omega (arith, h) in
    let rest = λ (d : Completion). map Known (outcomes (count - (counter + 1)) d) in
    ap (λ xs. map value_of xs ++ rest next) pushed ∙ ap (λ d. map value_of (rs ++ v ∷ []) ++ rest d) (sym follows)
    ∙ ap (λ vs. vs ++ rest (without_first now)) (map_snoc value_of rs v)
    ∙ append_assoc (map value_of rs) (value_of v ∷ []) (rest (without_first now))
    ∙ ap (λ w. map value_of rs ++ w ∷ rest (without_first now)) is
    ∙ ap (λ n. map value_of rs ++ map Known (outcomes n now)) (sym left) ∙ e

pub references_end : (rs : List Value) (now : Completion) (count counter : ℕ) (whole : List meant.Value) → count ≤ counter →
    map value_of rs ++ map Known (outcomes (count - counter) now) ≡ whole → map value_of rs ≡ whole
references_end rs now count counter whole h e =
    let none : count - counter ≡ 0 = omega (arith, h) in
    sym (append-nil (map value_of rs)) ∙ ap (λ n. map value_of rs ++ map Known (outcomes n now)) (sym none) ∙ e
