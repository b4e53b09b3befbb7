-- A list value by the items of its vector.
use Rattle.std.proofs.Common.{ℕ, ◌≤◌, length, take, ◌≡◌, List, map, refl, sym, ap, ◌∙◌}
use Rattle.std.proofs.lemmas.List.{take_all}
use Rattle.std.specs.declared.vec.Vec.{Vec}
use Rattle.std.specs.declared.alloc.Global.{Global}
use Rattle.ids.specs.of_meaning.Values.{Items, more, values_of}
use Rattle.values.specs.declared.value.RunValue.{RunValue, List as AList, List', Row_of-RunValue, end_of-RunValue, more_of-RunValue, items-the_row-RunValue, items_hidden-the_row-RunValue-0, items_shown-the_row-RunValue-0}
use Rattle.values.specs.Values.{value_of, values_in}

pub values_in-items : {n : _} (row : Row_of-RunValue n) → values_in row ≡ values_of (map value_of (items-the_row-RunValue n row))
values_in-items end_of-RunValue = refl
values_in-items (more_of-RunValue v rest) = ap (λ vs. more (value_of v) vs) (values_in-items rest)

pub value_of-list : (v : Vec RunValue Global) → value_of (AList v) ≡ Items (values_of (map value_of v.items))
value_of-list v = ap Items (values_in-items (Rattle.values.specs.declared.value.RunValue.TheBlock.hidden-the_row-RunValue-0 v) ∙ ap (λ vs. values_of (map value_of vs)) (items_hidden-the_row-RunValue-0 v))

-- a list whose items are copies
pub list_copied : (v w : Vec RunValue Global) (xs : List RunValue) (i : ℕ) → map value_of w.items ≡ map value_of (take i xs) → length xs ≤ i → xs ≡ v.items → value_of (AList w) ≡ value_of (AList v)
list_copied v w xs i e h f =
    value_of-list w ∙ ap (λ vs. Items (values_of vs)) (e ∙ ap (map value_of) (take_all i xs h ∙ f)) ∙ sym (value_of-list v)
