-- Lists of values and arguments are converted item by item, and what is plain has plain parts.
use Rattle.std.proofs.Common.{◌≡◌, ℕ, zero, suc, ◌<◌, ◌≤◌, List, [], ◌∷◌, length, get_or, take, map, sym, ap, subst, ◌∙◌, arith}
use Rattle.std.proofs.lemmas.List.{take_all}
use Rattle.std.specs.declared.vec.Vec.{Vec}
use Rattle.std.specs.declared.rc.Rc.{Rc}
use Rattle.std.specs.declared.alloc.Global.{Global}
use Rattle.meaning.specs.Values as meant
use Rattle.meaning.specs.Values.{values_of}
use Rattle.values.specs.Values.{value_of as task_value}
use Rattle.values.specs.declared.value.RunValue.{RunValue, List as TaskList}
use Rattle.values.proofs.Rows.{value_of-list as task_list}
use Rattle.frames.specs.Values.{value_of}
use Rattle.frames.specs.Machines.{argument_of}
use Rattle.evaluation.specs.TaskValues.{IsTaskValue, AreTaskValues, EachTaskValue, AreTaskArguments}
use Rattle.frames.specs.declared.value.Value.{Value, List as AList}
use Rattle.frames.specs.declared.value.Items.{Items}
use Rattle.frames.specs.declared.halt.MarkedArgument.{MarkedArgument}
use Rattle.frames.proofs.Rows.{list_is}

pub from_list : (v : Value) (r : RunValue) (row : Vec RunValue Global) (xs : List RunValue) (ys : List Value) (i : ℕ) → value_of v ≡ meant.Items (values_of (map value_of ys)) → map value_of ys ≡ map task_value (take i xs) → length xs ≤ i → xs ≡ row.items → r ≡ TaskList row → value_of v ≡ task_value r
from_list v r row xs ys i e f h is value =
    e ∙ ap (λ vs. meant.Items (values_of vs)) (f ∙ ap (map task_value) (take_all i xs h ∙ is)) ∙ sym (task_list row) ∙ ap task_value (sym value)

pub to_list : (v : Value) (p : Rc Items Global) (row : Vec RunValue Global) (xs : List Value) (i : ℕ) → map task_value row.items ≡ map value_of (take i xs) → length xs ≤ i → xs ≡ p.value.values.items → v ≡ AList p → task_value (TaskList row) ≡ value_of v
to_list v p row xs i e h is value =
    task_list row ∙ ap (λ vs. meant.Items (values_of vs)) (e ∙ ap (map value_of) (take_all i xs h)) ∙ sym (list_is v p xs value is)

-- what is plain has plain parts
each_plain : (vs : List meant.Value) → AreTaskValues (values_of vs) → EachTaskValue vs
each_plain [] h = tt
each_plain (v ∷ vs) h = (h.0, each_plain vs h.1)

pub value_within : (xs : List Value) (i : ℕ) (d : Value) → i < length xs → d ≡ get_or xs i d → EachTaskValue (map value_of xs) → IsTaskValue (value_of d)
value_within xs i d h is p = subst (λ x. IsTaskValue (value_of x)) (sym is) (at xs i d h p)
  where
    at : (xs : List Value) (i : ℕ) (d : Value) → i < length xs → EachTaskValue (map value_of xs) → IsTaskValue (value_of (get_or xs i d))
    at [] i d h p = absurd (omega arith)
    at (x ∷ xs) zero d h p = p.0
    at (x ∷ xs) (suc i) d h p = at xs i d (omega arith) p.1

pub item_within : (v : Value) (p : Rc Items Global) (xs : List Value) (i : ℕ) (d : Value) → v ≡ AList p → xs ≡ p.value.values.items → i < length xs → d ≡ get_or xs i d → IsTaskValue (value_of v) → IsTaskValue (value_of d)
item_within v p xs i d value row h is plain = value_within xs i d h is (each_plain (map value_of xs) (subst IsTaskValue (list_is v p xs value row) plain))

pub argument_within : (xs : List MarkedArgument) (i : ℕ) (d : MarkedArgument) → i < length xs → d ≡ get_or xs i d → AreTaskArguments (map argument_of xs) → IsTaskValue (value_of d.value)
argument_within xs i d h is p = subst (λ (x : MarkedArgument). IsTaskValue (value_of x.value)) (sym is) (at xs i d h p)
  where
    at : (xs : List MarkedArgument) (i : ℕ) (d : MarkedArgument) → i < length xs → AreTaskArguments (map argument_of xs) → IsTaskValue (value_of (get_or xs i d).value)
    at [] i d h p = absurd (omega arith)
    at (x ∷ xs) zero d h p = p.0
    at (x ∷ xs) (suc i) d h p = at xs i d (omega arith) p.1
