-- The items of a list, written one by one up to where it is cut.
use Rattle.std.proofs.Common.{◌≡◌, ℕ, suc, ◌+◌, ◌-◌, ◌<◌, ◌≤◌, true, false, List, [], ◌∷◌, ◌++◌, length, drop, get_or, map, refl, sym, ap, ◌∙◌, append_assoc, add-one}
use Rattle.std.specs.Prelude.{codes, if◌then◌else◌, Result, Ok, Err, OnOk}
use Rattle.std.proofs.lemmas.List.{drop_all, drop_more}
use Rattle.std.specs.declared.vec.Vec.{Vec}
use Rattle.std.specs.declared.alloc.Global.{Global}
use Rattle.meaning.specs.Values.{count, values_of}
use Rattle.values.specs.declared.value.RunValue.{RunValue, List as AList}
use Rattle.values.specs.Values.{value_of}
use Rattle.values.proofs.Rows.{value_of-list}
use Rattle.report.specs.ValueTexts.{separator}
use Rattle.cut_values.specs.Cut.{cut_text, is_cut, items_text, left_text}

-- the text from a place of a list on
abbrev pub from_place : List RunValue → ℕ → List ℕ
from_place xs k = items_text (length xs) k (values_of (map value_of (drop k xs)))

counted : (xs : List RunValue) → count (values_of (map value_of xs)) ≡ length xs
counted [] = refl
counted (x ∷ xs) = ap (λ n. n + 1) (counted xs) ∙ add-one (length xs)

abbrev one_text : ℕ → ℕ → RunValue → List ℕ → List ℕ
one_text all k x rest = if is_cut all k then left_text (all - k) else separator k ++ (cut_text (value_of x) ++ rest)

at_place : (xs : List RunValue) (k : ℕ) (x d : RunValue) → k < length xs → get_or xs k d ≡ x →
    from_place xs k ≡ one_text (length xs) k x (from_place xs (k + 1))
at_place xs k x d h g =
    ap (λ ys. items_text (length xs) k (values_of (map value_of ys))) (drop_more xs k d h)
    ∙ ap (λ y. one_text (length xs) k y (items_text (length xs) (suc k) (values_of (map value_of (drop (k + 1) xs))))) g
    ∙ ap (λ j. one_text (length xs) k x (items_text (length xs) j (values_of (map value_of (drop (k + 1) xs))))) (sym (add-one k))

-- the list is cut here
pub cut_here : (start now new : List ℕ) (xs : List RunValue) (k : ℕ) (x d : RunValue) → k < length xs → get_or xs k d ≡ x → is_cut (length xs) k ≡ true →
    now ++ from_place xs k ≡ start → new ≡ now ++ left_text (length xs - k) → new ≡ start
cut_here start now new xs k x d h g cut told put =
    put ∙ ap (λ b. now ++ (if b then left_text (length xs - k) else separator k ++ (cut_text (value_of x) ++ from_place xs (k + 1)))) (sym cut)
    ∙ ap (λ t. now ++ t) (sym (at_place xs k x d h g)) ∙ told

-- one more item is written
pub item_written : (start now mid new : List ℕ) (xs : List RunValue) (k : ℕ) (x d : RunValue) → k < length xs → get_or xs k d ≡ x →
    is_cut (length xs) k ≡ false → now ++ from_place xs k ≡ start → mid ≡ now ++ separator k → new ≡ mid ++ cut_text (value_of x) →
    new ++ from_place xs (k + 1) ≡ start
item_written start now mid new xs k x d h g whole told e n =
    let text : List ℕ = cut_text (value_of x) in
    let rest : List ℕ = from_place xs (k + 1) in
    ap (λ t. t ++ rest) n ∙ append_assoc mid text rest ∙ ap (λ t. t ++ (text ++ rest)) e ∙ append_assoc now (separator k) (text ++ rest)
    ∙ ap (λ b. now ++ (if b then left_text (length xs - k) else separator k ++ (text ++ rest))) (sym whole)
    ∙ ap (λ t. now ++ t) (sym (at_place xs k x d h g)) ∙ told

-- the whole list has been written
pub all_written : (start now new : List ℕ) (xs : List RunValue) (k : ℕ) → length xs ≤ k → now ++ from_place xs k ≡ start → new ≡ now ++ codes "]" →
    new ≡ start
all_written start now new xs k h told put =
    put ∙ ap (λ ys. now ++ items_text (length xs) k (values_of (map value_of ys))) (sym (drop_all k xs h)) ∙ told

-- the text of a list is that of its items behind a bracket
pub list_text : (old : List ℕ) (v : Vec RunValue Global) (value : RunValue) (xs : List RunValue) → value ≡ AList v → xs ≡ v.items →
    (old ++ codes "[") ++ from_place xs 0 ≡ old ++ cut_text (value_of value)
list_text old v value xs is items =
    append_assoc old (codes "[") (from_place xs 0)
    ∙ ap (λ ys. old ++ (codes "[" ++ from_place ys 0)) items
    ∙ ap (λ n. old ++ (codes "[" ++ items_text n 0 (values_of (map value_of v.items)))) (sym (counted v.items))
    ∙ ap (λ t. old ++ cut_text t) (sym (ap value_of is ∙ value_of-list v))

-- what is written of a list that is cut
pub cut_returned : {X E : Type 0} (old opened now new : List ℕ) (v : Vec RunValue Global) (value : RunValue) (xs : List RunValue) (k all count : ℕ) (x d : RunValue)
    (r : Result X E) → value ≡ AList v → xs ≡ v.items → opened ≡ old ++ codes "[" → k < length xs → get_or xs k d ≡ x → all ≡ length xs →
    is_cut all k ≡ true → now ++ from_place xs k ≡ opened ++ from_place xs 0 → count ≡ all - k → OnOk r (new ≡ now ++ left_text count) →
    OnOk r (new ≡ old ++ cut_text (value_of value))
cut_returned old opened now new v value xs k all count x d (Err e) is items o h g same cut told less put = put
cut_returned old opened now new v value xs k all count x d (Ok y) is items o h g same cut told less put =
    cut_here (opened ++ from_place xs 0) now new xs k x d h g (ap (λ n. is_cut n k) (sym same) ∙ cut) told
    (put ∙ ap (λ n. now ++ left_text n) (less ∙ ap (λ n. n - k) same))
    ∙ ap (λ t. t ++ from_place xs 0) o ∙ list_text old v value xs is items

-- what is written of a list that is not
pub whole_returned : (old opened now new : List ℕ) (v : Vec RunValue Global) (value : RunValue) (xs : List RunValue) (k : ℕ) → value ≡ AList v → xs ≡ v.items →
    opened ≡ old ++ codes "[" → length xs ≤ k → now ++ from_place xs k ≡ opened ++ from_place xs 0 → new ≡ now ++ codes "]" →
    new ≡ old ++ cut_text (value_of value)
whole_returned old opened now new v value xs k is items o h told put =
    all_written (opened ++ from_place xs 0) now new xs k h told put ∙ ap (λ t. t ++ from_place xs 0) o ∙ list_text old v value xs is items
