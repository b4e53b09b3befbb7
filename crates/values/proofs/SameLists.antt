-- Lists are the same exactly where they are as long and have the same values.
use Rattle.std.proofs.Common.{◌≡◌, ℕ, zero, suc, ◌<◌, List, [], ◌∷◌, length, get_or, map, refl, sym, ap, ◌∙◌, arith}
use Rattle.std.specs.declared.vec.Vec.{Vec}
use Rattle.std.specs.declared.alloc.Global.{Global}
use Rattle.ids.specs.of_meaning.Values.{Value, Int as AnInt, Items, Named, Known, list_of, values_of}
use Rattle.values.specs.declared.value.RunValue.{RunValue, List as AList}
use Rattle.values.specs.Values.{value_of}
use Rattle.values.proofs.Rows.{value_of-list}

listed : (vs : List Value) → list_of (values_of vs) ≡ vs
listed [] = refl
listed (v ∷ vs) = ap (λ ws. v ∷ ws) (listed vs)

items_in : Value → List Value
items_in (AnInt n) = []
items_in (Items vs) = list_of vs
items_in (Named o) = []
items_in (Known c) = []

items_same : (vs ws : List Value) → Items (values_of vs) ≡ Items (values_of ws) → vs ≡ ws
unfolding items_in
items_same vs ws e = sym (listed vs) ∙ ap items_in e ∙ listed ws

pub same_list : (self other : RunValue) (v w : Vec RunValue Global) (xs ys : List RunValue) → self ≡ AList v → other ≡ AList w → xs ≡ v.items → ys ≡ w.items → map value_of xs ≡ map value_of ys → value_of self ≡ value_of other
same_list self other v w xs ys es eo ex ey e =
    ap value_of es ∙ value_of-list v ∙ ap (λ vs. Items (values_of vs)) (sym (ap (map value_of) ex) ∙ e ∙ ap (map value_of) ey) ∙ sym (value_of-list w) ∙ sym (ap value_of eo)

pub only_list : (self other : RunValue) (v w : Vec RunValue Global) (xs ys : List RunValue) → self ≡ AList v → other ≡ AList w → xs ≡ v.items → ys ≡ w.items → value_of self ≡ value_of other → map value_of xs ≡ map value_of ys
only_list self other v w xs ys es eo ex ey e =
    ap (map value_of) ex ∙ items_same (map value_of v.items) (map value_of w.items) (sym (value_of-list v) ∙ sym (ap value_of es) ∙ e ∙ ap value_of eo ∙ value_of-list w) ∙ sym (ap (map value_of) ey)

first_same : {Y : Type 0} (v w : Y) (vs ws : List Y) → v ∷ vs ≡ w ∷ ws → v ≡ w
first_same v w vs ws e = cc

rest_same : {Y : Type 0} (v w : Y) (vs ws : List Y) → v ∷ vs ≡ w ∷ ws → vs ≡ ws
rest_same v w vs ws e = cc

pub same_at : {X Y : Type 0} (f : X → Y) (xs ys : List X) (i : ℕ) (x y : X) → i < length xs → i < length ys → map f xs ≡ map f ys → x ≡ get_or xs i x → y ≡ get_or ys i y → f x ≡ f y
same_at f [] ys i x y h k e ex ey = absurd (omega arith)
same_at f (u ∷ xs) [] i x y h k e ex ey = absurd (omega arith)
same_at f (u ∷ xs) (v ∷ ys) zero x y h k e ex ey = ap f ex ∙ first_same (f u) (f v) (map f xs) (map f ys) e ∙ sym (ap f ey)
same_at f (u ∷ xs) (v ∷ ys) (suc i) x y h k e ex ey = same_at f xs ys i x y (omega arith) (omega arith) (rest_same (f u) (f v) (map f xs) (map f ys) e) ex ey
