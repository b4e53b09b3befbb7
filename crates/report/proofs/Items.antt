-- The items of a list, written one by one.
use Rattle.std.proofs.Common.{◌≡◌, ℕ, zero, suc, ◌+◌, ◌<◌, ◌≤◌, List, [], ◌∷◌, ◌++◌, length, take, get_or, map, refl, sym, ap, ◌∙◌, append_assoc, append-nil, arith, add-one}
use Rattle.std.specs.Prelude.{codes}
use Rattle.std.proofs.Math.Seq.{take-suc}
use Rattle.std.proofs.lemmas.List.{take_all}
use Rattle.std.specs.declared.vec.Vec.{Vec}
use Rattle.std.specs.declared.alloc.Global.{Global}
use Rattle.values.specs.of_meaning.Values.{Value, Items, values_of}
use Rattle.values.specs.declared.value.RunValue.{RunValue, List as AList}
use Rattle.values.specs.Values.{value_of}
use Rattle.values.proofs.Rows.{value_of-list}
use Rattle.report.specs.ValueTexts.{value_text, items_text, others_text, separator}
use Rattle.report.specs.MainLines.{print_lines}

-- the text of the first items of a list
abbrev pub text_of_items : List RunValue → List ℕ
text_of_items vs = items_text (values_of (map value_of vs))

others-push : (vs : List RunValue) (v : RunValue) → others_text (values_of (map value_of (vs ++ v ∷ []))) ≡ others_text (values_of (map value_of vs)) ++ (codes ", " ++ value_text (value_of v))
others-push [] v = ap (λ t. codes ", " ++ t) (append-nil (value_text (value_of v)))
others-push (w ∷ vs) v =
    ap (λ t. codes ", " ++ (value_text (value_of w) ++ t)) (others-push vs v)
    ∙ ap (λ t. codes ", " ++ t) (sym (append_assoc (value_text (value_of w)) (others_text (values_of (map value_of vs))) (codes ", " ++ value_text (value_of v))))

items-push : (vs : List RunValue) (v : RunValue) → text_of_items (vs ++ v ∷ []) ≡ text_of_items vs ++ (separator (length vs) ++ value_text (value_of v))
items-push [] v = append-nil (value_text (value_of v))
items-push (w ∷ vs) v =
    ap (λ t. value_text (value_of w) ++ t) (others-push vs v)
    ∙ sym (append_assoc (value_text (value_of w)) (others_text (values_of (map value_of vs))) (codes ", " ++ value_text (value_of v)))

length-take : {A : Type 0} (xs : List A) (k : ℕ) → k ≤ length xs → length (take k xs) ≡ k
length-take xs zero h = refl
length-take [] (suc k) h = absurd (omega arith)
length-take (x ∷ xs) (suc k) h = ap suc (length-take xs k (omega arith))

-- one more item is written
pub item_written : (start now mid new : List ℕ) (xs : List RunValue) (k : ℕ) (x d : RunValue) → k < length xs → get_or xs k d ≡ x → now ≡ start ++ text_of_items (take k xs) → mid ≡ now ++ separator k → new ≡ mid ++ value_text (value_of x) → new ≡ start ++ text_of_items (take (k + 1) xs)
item_written start now mid new xs k x d h g e f n =
    let before : List ℕ = text_of_items (take k xs) in
    let more : List ℕ = separator k ++ value_text (value_of x) in
    let taken : take (k + 1) xs ≡ take k xs ++ x ∷ [] = ap (λ j. take j xs) (add-one k) ∙ take-suc xs k d h ∙ ap (λ y. take k xs ++ y ∷ []) g in
    let one : text_of_items (take (k + 1) xs) ≡ before ++ more = ap text_of_items taken ∙ items-push (take k xs) x ∙ ap (λ j. before ++ (separator j ++ value_text (value_of x))) (length-take xs k (omega arith)) in
    n ∙ ap (λ t. t ++ value_text (value_of x)) f
    ∙ append_assoc now (separator k) (value_text (value_of x))
    ∙ ap (λ t. t ++ more) e ∙ append_assoc start before more ∙ ap (λ t. start ++ t) (sym one)

-- the whole list is written
pub list_written : (old opened now new : List ℕ) (v : Vec RunValue Global) (value : RunValue) (xs : List RunValue) (k : ℕ) → value ≡ AList v → xs ≡ v.items → length xs ≤ k → opened ≡ old ++ codes "[" → now ≡ opened ++ text_of_items (take k xs) → new ≡ now ++ codes "]" → new ≡ old ++ value_text (value_of value)
list_written old opened now new v value xs k is items h o e n =
    let text : List ℕ = text_of_items v.items in
    let all : text_of_items (take k xs) ≡ text = ap text_of_items (take_all k xs h ∙ items) in
    n ∙ ap (λ t. t ++ codes "]") (e ∙ ap (λ t. opened ++ t) all ∙ ap (λ t. t ++ text) o ∙ append_assoc old (codes "[") text)
    ∙ append_assoc old (codes "[" ++ text) (codes "]")
    ∙ ap (λ t. old ++ value_text t) (sym (ap value_of is ∙ value_of-list v))

-- ---- prints

print_lines-push : (vs : List RunValue) (v : RunValue) → print_lines (map value_of (vs ++ v ∷ [])) ≡ print_lines (map value_of vs) ++ (codes "print " ++ (value_text (value_of v) ++ codes "\n"))
print_lines-push [] v = refl
print_lines-push (w ∷ vs) v =
    let line : List ℕ = codes "print " ++ (value_text (value_of v) ++ codes "\n") in
    let others : List ℕ = print_lines (map value_of vs) in
    ap (λ t. codes "print " ++ (value_text (value_of w) ++ (codes "\n" ++ t))) (print_lines-push vs v)
    ∙ ap (λ t. codes "print " ++ (value_text (value_of w) ++ t)) (sym (append_assoc (codes "\n") others line))
    ∙ ap (λ t. codes "print " ++ t) (sym (append_assoc (value_text (value_of w)) (codes "\n" ++ others) line))
    ∙ sym (append_assoc (codes "print ") (value_text (value_of w) ++ (codes "\n" ++ others)) line)

-- one more print is written
pub print_written : (start now named valued new : List ℕ) (xs : List RunValue) (k : ℕ) (x d : RunValue) → k < length xs → get_or xs k d ≡ x → now ≡ start ++ print_lines (map value_of (take k xs)) → named ≡ now ++ codes "print " → valued ≡ named ++ value_text (value_of x) → new ≡ valued ++ codes "\n" → new ≡ start ++ print_lines (map value_of (take (k + 1) xs))
print_written start now named valued new xs k x d h g e f v n =
    let before : List ℕ = print_lines (map value_of (take k xs)) in
    let line : List ℕ = codes "print " ++ (value_text (value_of x) ++ codes "\n") in
    let taken : take (k + 1) xs ≡ take k xs ++ x ∷ [] = ap (λ j. take j xs) (add-one k) ∙ take-suc xs k d h ∙ ap (λ y. take k xs ++ y ∷ []) g in
    let one : print_lines (map value_of (take (k + 1) xs)) ≡ before ++ line = ap (λ ys. print_lines (map value_of ys)) taken ∙ print_lines-push (take k xs) x in
    n ∙ ap (λ t. t ++ codes "\n") (v ∙ ap (λ t. t ++ value_text (value_of x)) f ∙ append_assoc now (codes "print ") (value_text (value_of x)))
    ∙ append_assoc now (codes "print " ++ value_text (value_of x)) (codes "\n")
    ∙ ap (λ t. t ++ line) e ∙ append_assoc start before line ∙ ap (λ t. start ++ t) (sym one)
