-- The ids read, one argument after another.
use Rattle.std.proofs.Common.{◌≡◌, ℕ, ◌+◌, ◌<◌, List, [], ◌∷◌, ◌++◌, length, take, get_or, map, sym, ap, ◌∙◌, append_assoc, arith}
use Rattle.std.proofs.lemmas.List.{take_more, map-append}
use Rattle.std.proofs.lemmas.Grind.{common_steps}
use Rattle.values.specs.of_meaning.Values.{Argument as AnArgument}
use Rattle.task_spec.specs.declared.birth.Argument.{Argument}
use Rattle.task_spec.specs.Births.{argument_of}
use Rattle.task_spec.specs.Dereferenced.{id_read, ids_read}

read_one : (a : AnArgument) → ids_read (a ∷ []) ≡ id_read a
read_one a = grind (arith, common_steps)

read_snoc : (bs : List AnArgument) (a : AnArgument) → ids_read (bs ++ a ∷ []) ≡ ids_read bs ++ id_read a
read_snoc [] a = read_one a
read_snoc (b ∷ bs) a = ap (λ os. id_read b ++ os) (read_snoc bs a) ∙ sym (append_assoc (id_read b) (ids_read bs) (id_read a))

pub read_more : (xs : List Argument) (i : ℕ) (x : Argument) → i < length xs → x ≡ get_or xs i x → ids_read (map argument_of (take (i + 1) xs)) ≡ ids_read (map argument_of (take i xs)) ++ id_read (argument_of x)
read_more xs i x h is =
    ap (λ ys. ids_read (map argument_of ys)) (take_more xs i x h ∙ ap (λ y. take i xs ++ y ∷ []) (sym is))
    ∙ ap ids_read (map-append argument_of (take i xs) (x ∷ [])) ∙ read_snoc (map argument_of (take i xs)) (argument_of x)
