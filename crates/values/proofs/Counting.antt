-- The cells of a list by those of its items.
use Rattle.std.proofs.Common.{◌≡◌, ℕ, zero, suc, ◌+◌, ◌<◌, ◌≤◌, List, [], ◌∷◌, ◌++◌, length, take, get_or, map, refl, sym, ap, ◌∙◌, arith}
use Rattle.std.proofs.lemmas.List.{take_all, take_more}
use Rattle.std.specs.declared.vec.Vec.{Vec}
use Rattle.std.specs.declared.alloc.Global.{Global}
use Rattle.std.specs.Prelude.{IfNone, IfSome, None, Option, Some, false, is_some, nat_lt, not, true}
use Rattle.std.proofs.lemmas.Bool.Decides.{nat_tests}
use Rattle.ids.specs.of_meaning.Values.{Trap, Trapped, Val, Value, values_of}
use Rattle.values.specs.declared.value.RunValue.{RunValue, List as AList}
use Rattle.values.specs.Values.{value_of}
use Rattle.values.proofs.Rows.{value_of-list}
use Rattle.values.specs.Cells.{cells, cells_among, is_small}

abbrev pub cells_of_items : List RunValue → ℕ
cells_of_items [] = 0
cells_of_items (v ∷ vs) = cells (value_of v) + cells_of_items vs

cells_among-items : (vs : List RunValue) → cells_among (values_of (map value_of vs)) ≡ cells_of_items vs
cells_among-items [] = refl
cells_among-items (v ∷ vs) = ap (λ n. cells (value_of v) + n) (cells_among-items vs)

none_before : (a : ℕ) → a ≡ 0 + a
none_before a = omega arith

grouped : (a b c : ℕ) → a + (b + c) ≡ (a + b) + c
grouped a b c = omega arith

cells_of_items-append : (vs ws : List RunValue) → cells_of_items (vs ++ ws) ≡ cells_of_items vs + cells_of_items ws
cells_of_items-append [] ws = none_before (cells_of_items ws)
cells_of_items-append (v ∷ vs) ws = ap (λ n. cells (value_of v) + n) (cells_of_items-append vs ws) ∙ grouped (cells (value_of v)) (cells_of_items vs) (cells_of_items ws)

list_cells : (v : Vec RunValue Global) → cells (value_of (AList v)) ≡ 1 + cells_of_items v.items
list_cells v = ap cells (value_of-list v) ∙ ap (λ n. 1 + n) (cells_among-items v.items)

taken_more : (vs : List RunValue) (i : ℕ) (v d : RunValue) → i < length vs → get_or vs i d ≡ v → cells_of_items (take (i + 1) vs) ≡ cells_of_items (take i vs) + cells (value_of v)
taken_more vs i v d l g =
    let r = cells_of_items-append (take i vs) (v ∷ []) in
    ap cells_of_items (take_more vs i d l) ∙ ap (λ w. cells_of_items (take i vs ++ w ∷ [])) g ∙ r ∙ let e : cells (value_of v) + 0 ≡ cells (value_of v) = omega arith in ap (λ n. cells_of_items (take i vs) + n) e

taken_part : (vs : List RunValue) (i : ℕ) → cells_of_items (take i vs) ≤ cells_of_items vs
taken_part [] zero = omega arith
taken_part [] (suc i) = omega arith
taken_part (v ∷ vs) zero = omega arith
taken_part (v ∷ vs) (suc i) = one_more (cells (value_of v)) (cells_of_items (take i vs)) (cells_of_items vs) (taken_part vs i)
  where
    one_more : (a b c : ℕ) → b ≤ c → a + b ≤ a + c
    one_more a b c l = omega (arith, l)

-- what is left behind one more item
pub left_behind : (vs : List RunValue) (i left behind room : ℕ) (v d : RunValue) → i < length vs → get_or vs i d ≡ v → 1 + cells_of_items (take i vs) + left ≡ room →
    cells (value_of v) + behind ≡ left → 1 + cells_of_items (take (i + 1) vs) + behind ≡ room
left_behind vs i left behind room v d l g e f = let t = taken_more vs i v d l g in omega (arith, t, e, f)

-- an item that takes more than is left
pub too_much : (vs : List RunValue) (i left room : ℕ) (v d : RunValue) (w : Vec RunValue Global) → i < length vs → get_or vs i d ≡ v → vs ≡ w.items → 1 + cells_of_items (take i vs) + left ≡ room →
    left < cells (value_of v) → room < cells (value_of (AList w))
too_much vs i left room v d w l g s e f =
    let t = taken_more vs i v d l g in
    let p = taken_part vs (i + 1) in
    let c = list_cells w in
    let same : cells_of_items vs ≡ cells_of_items w.items = ap cells_of_items s in
    omega (arith, t, p, c, e, f, same)

-- behind the last
pub all_left : (vs : List RunValue) (i left room : ℕ) (w : Vec RunValue Global) → length vs ≤ i → vs ≡ w.items → 1 + cells_of_items (take i vs) + left ≡ room →
    cells (value_of (AList w)) + left ≡ room
all_left vs i left room w l s e =
    let t : cells_of_items (take i vs) ≡ cells_of_items w.items = ap cells_of_items (take_all i vs l ∙ s) in
    let c = list_cells w in
    omega (arith, t, c, e)

-- ---- small contents

pub trap_is_small : (t : Trap) → true ≡ is_small (Trapped t)
unfolding is_small
trap_is_small t = refl

pub value_is_small : (v : Value) (r : Option ℕ) → IfSome r (λ left. cells v + left ≡ 8) → IfNone r (8 < cells v) → is_some r ≡ is_small (Val v)
unfolding is_small
value_is_small v None some none = let e : nat_lt 8 (cells v) ≡ true = grind (arith, nat_tests, none) in sym (ap not e)
value_is_small v (Some left) some none = let e : nat_lt 8 (cells v) ≡ false = grind (arith, nat_tests, some) in sym (ap not e)
