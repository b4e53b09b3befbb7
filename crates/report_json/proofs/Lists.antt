-- A list value by the items of its vector.
use Rattle.std.proofs.Common.{ℕ, ◌≤◌, length, take, ◌≡◌, List, [], ◌∷◌, map, refl, sym, ap, ◌∙◌}
use Rattle.std.proofs.lemmas.List.{take_all}
use Rattle.std.specs.declared.vec.Vec.{Vec}
use Rattle.std.specs.declared.alloc.Global.{Global}
use Rattle.serde_json.specs.Data.{array, item}
use Rattle.serde_json.specs.View.{view, items_of, items_view}
use Rattle.serde_json.specs.declared.value.Value.{Value}
use Rattle.meaning.specs.Values.{values_of}
use Rattle.values.specs.declared.value.RunValue.{RunValue, List as AList}
use Rattle.values.specs.Values.{value_of}
use Rattle.values.proofs.Rows.{value_of-list}
use Rattle.report_json.specs.Values.{value_data, values_data}

items_written : (xs : List RunValue) → items_of (map (λ v. value_data (value_of v)) xs) ≡ values_data (values_of (map value_of xs))
items_written [] = refl
items_written (x ∷ xs) = ap (λ ds. item (value_data (value_of x)) ds) (items_written xs)

-- a list whose items are written
pub list_written : (v : Vec RunValue Global) (done : List Value) (xs : List RunValue) (i : ℕ) →
    map view done ≡ map (λ x. value_data (value_of x)) (take i xs) → length xs ≤ i → xs ≡ v.items → array (items_view done) ≡ value_data (value_of (AList v))
list_written v done xs i e h f =
    ap (λ ds. array (items_of ds)) (e ∙ ap (map (λ x. value_data (value_of x))) (take_all i xs h ∙ f))
    ∙ ap array (items_written v.items) ∙ sym (ap value_data (value_of-list v))
