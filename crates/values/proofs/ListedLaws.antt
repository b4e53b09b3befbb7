-- Ids that are added one by one.
use Rattle.std.proofs.Common.{◌≡◌, ℕ, ◌+◌, ◌<◌, ◌≤◌, Bool, true, false, List, [], ◌∷◌, ◌++◌, length, take, get_or, map, refl, sym, ap, ◌∙◌, subst, append_assoc, append-nil, arith}
use Rattle.std.specs.Prelude.{if◌then◌else◌, ◌&&◌, ◌||◌, ◌==◌}
use Rattle.std.specs.List.{list_any}
use Rattle.std.proofs.lemmas.List.{take_all, take_more}
use Rattle.std.specs.declared.vec.Vec.{Vec}
use Rattle.std.specs.declared.alloc.Global.{Global}
use Rattle.ids.specs.of_meaning.Values.{values_of, Id}
use Rattle.ids.specs.of_meaning.Births.{same_id}
use Rattle.ids.proofs.of_meaning.BirthLaws.{same_id-true, at_test}
use Rattle.std.proofs.lemmas.Bool.Decides.{nat_tests}
use Rattle.values.specs.declared.value.RunValue.{RunValue, List as AList}
use Rattle.values.specs.Values.{value_of}
use Rattle.values.specs.Listed.{ids_listed, ids_among, without, each_once, adding}
use Rattle.values.proofs.Rows.{value_of-list}

-- ---- one more

abbrev pub is_there : List Id → Id → Bool
is_there xs o = list_any (λ (x : Id). (x.owner == o.owner) && (x.serial == o.serial)) xs

is_there-ids : (xs : List Id) (o : Id) → list_any (λ p. same_id p o) xs ≡ is_there xs o
unfolding same_id
is_there-ids [] o = refl
is_there-ids (x ∷ xs) o = ap (λ b. ((x.owner == o.owner) && (x.serial == o.serial)) || b) (is_there-ids xs o)

pub there_already : (xs : List Id) (o : Id) → is_there xs o ≡ true → xs ≡ adding xs (o ∷ [])
there_already xs o e = sym (ap (λ b. if b then xs else xs ++ o ∷ []) (is_there-ids xs o ∙ e))

pub new_there : (xs ys : List Id) (o : Id) → is_there xs o ≡ false → ys ≡ xs ++ o ∷ [] → ys ≡ adding xs (o ∷ [])
new_there xs ys o e f = f ∙ sym (ap (λ b. if b then xs else xs ++ o ∷ []) (is_there-ids xs o ∙ e))

-- ---- the items of a list

adding-append : (seen xs ys : List Id) → adding seen (xs ++ ys) ≡ adding (adding seen xs) ys
adding-append seen [] ys = refl
adding-append seen (x ∷ xs) ys = adding-append (if list_any (λ p. same_id p x) seen then seen else seen ++ x ∷ []) xs ys

abbrev pub ids_of_items : List RunValue → List Id
ids_of_items [] = []
ids_of_items (v ∷ vs) = ids_listed (value_of v) ++ ids_of_items vs

ids_among-items : (vs : List RunValue) → ids_among (values_of (map value_of vs)) ≡ ids_of_items vs
ids_among-items [] = refl
ids_among-items (v ∷ vs) = ap (λ ids. ids_listed (value_of v) ++ ids) (ids_among-items vs)

ids_of_items-push : (vs : List RunValue) (v : RunValue) → ids_of_items (vs ++ v ∷ []) ≡ ids_of_items vs ++ ids_listed (value_of v)
ids_of_items-push [] v = append-nil (ids_listed (value_of v))
ids_of_items-push (w ∷ vs) v = ap (λ ids. ids_listed (value_of w) ++ ids) (ids_of_items-push vs v) ∙ sym (append_assoc (ids_listed (value_of w)) (ids_of_items vs) (ids_listed (value_of v)))

-- what one more item adds
pub one_more_added : (seen now next : List Id) (vs : List RunValue) (i : ℕ) (v d : RunValue) → i < length vs → get_or vs i d ≡ v → now ≡ adding seen (ids_of_items (take i vs)) → next ≡ adding now (ids_listed (value_of v)) → next ≡ adding seen (ids_of_items (take (i + 1) vs))
one_more_added seen now next vs i v d l g e f =
    f ∙ ap (λ ids. adding ids (ids_listed (value_of v))) e
    ∙ sym (adding-append seen (ids_of_items (take i vs)) (ids_listed (value_of v)))
    ∙ ap (λ ids. adding seen ids) (sym (ids_of_items-push (take i vs) v))
    ∙ ap (λ ws. adding seen (ids_of_items ws)) (ap (λ w. take i vs ++ w ∷ []) (sym g) ∙ sym (take_more vs i d l))

pub items_added : (seen : List Id) (v : Vec RunValue Global) (xs : List RunValue) (i : ℕ) (now : List Id) → now ≡ adding seen (ids_of_items (take i xs)) → length xs ≤ i → xs ≡ v.items → now ≡ adding seen (ids_listed (value_of (AList v)))
items_added seen v xs i now e h f =
    e ∙ ap (λ vs. adding seen (ids_of_items vs)) (take_all i xs h ∙ f) ∙ ap (λ ids. adding seen ids) (sym (ids_among-items v.items)) ∙ ap (λ w. adding seen (ids_listed w)) (sym (value_of-list v))

-- ---- each once

same_id-sym : (o p : Id) → same_id o p ≡ same_id p o
unfolding same_id
same_id-sym o p = grind (arith, nat_tests)

-- those that are not there
abbrev minus : List Id → List Id → List Id
minus seen [] = []
minus seen (p ∷ ps) = if list_any (λ q. same_id q p) seen then minus seen ps else p ∷ minus seen ps

any-push : (p : Id) (seen : List Id) (o : Id) → list_any (λ q. same_id q p) (seen ++ o ∷ []) ≡ (if list_any (λ q. same_id q p) seen then true else same_id o p)
any-push p [] o = at_test (λ b. (b || false) ≡ b) (same_id o p) (λ _. refl) (λ _. refl)
any-push p (s ∷ seen) o =
    let r = any-push p seen o in
    at_test (λ b. (b || list_any (λ q. same_id q p) (seen ++ o ∷ [])) ≡ (if (b || list_any (λ q. same_id q p) seen) then true else same_id o p)) (same_id s p) (λ _. refl) (λ _. r)

-- what is there already is dropped either way
minus-without : (seen ps : List Id) (o : Id) → list_any (λ q. same_id q o) seen ≡ true → minus seen (without o ps) ≡ minus seen ps
minus-without seen [] o e = refl
minus-without seen (p ∷ ps) o e =
    let r = minus-without seen ps o e in
    at_test (λ b. same_id p o ≡ b → minus seen (if b then without o ps else p ∷ without o ps) ≡ minus seen (p ∷ ps)) (same_id p o)
    (λ _ t. let there : list_any (λ q. same_id q p) seen ≡ true = subst (λ x. list_any (λ q. same_id q x) seen ≡ true) (sym (same_id-true p o t)) e in
    r ∙ sym (ap (λ b. if b then minus seen ps else p ∷ minus seen ps) there))
    (λ _ _. ap (λ qs. if list_any (λ q. same_id q p) seen then qs else p ∷ qs) r)
    refl

minus-push : (seen ps : List Id) (o : Id) → minus (seen ++ o ∷ []) ps ≡ minus seen (without o ps)
minus-push seen [] o = refl
minus-push seen (p ∷ ps) o =
    let r = minus-push seen ps o in
    ap (λ b. if b then minus (seen ++ o ∷ []) ps else p ∷ minus (seen ++ o ∷ []) ps) (any-push p seen o ∙ ap (λ b. if list_any (λ q. same_id q p) seen then true else b) (same_id-sym o p))
    ∙ at_test (λ b. (if (if list_any (λ q. same_id q p) seen then true else b) then minus (seen ++ o ∷ []) ps else p ∷ minus (seen ++ o ∷ []) ps) ≡ minus seen (if b then without o ps else p ∷ without o ps)) (same_id p o)
    (λ _. at_test (λ a. (if (if a then true else true) then minus (seen ++ o ∷ []) ps else p ∷ minus (seen ++ o ∷ []) ps) ≡ minus seen (without o ps)) (list_any (λ q. same_id q p) seen) (λ _. r) (λ _. r))
    (λ _. at_test (λ a. (if (if a then true else false) then minus (seen ++ o ∷ []) ps else p ∷ minus (seen ++ o ∷ []) ps) ≡ (if a then minus seen (without o ps) else p ∷ minus seen (without o ps))) (list_any (λ q. same_id q p) seen) (λ _. r) (λ _. ap (λ qs. p ∷ qs) r))

adding-minus : (seen os : List Id) → adding seen os ≡ seen ++ minus seen (each_once os)
adding-minus seen [] = sym (append-nil seen)
adding-minus seen (o ∷ os) =
    let here = adding-minus seen os in
    let there = adding-minus (seen ++ o ∷ []) os in
    at_test (λ b. list_any (λ q. same_id q o) seen ≡ b → adding (if b then seen else seen ++ o ∷ []) os ≡ seen ++ (if b then minus seen (without o (each_once os)) else o ∷ minus seen (without o (each_once os)))) (list_any (λ q. same_id q o) seen)
    (λ _ e. here ∙ ap (λ qs. seen ++ qs) (sym (minus-without seen (each_once os) o e)))
    (λ _ _. there ∙ append_assoc seen (o ∷ []) (minus (seen ++ o ∷ []) (each_once os)) ∙ ap (λ qs. seen ++ o ∷ qs) (minus-push seen (each_once os) o))
    refl

minus-nothing : (ps : List Id) → minus [] ps ≡ ps
minus-nothing [] = refl
minus-nothing (p ∷ ps) = ap (λ qs. p ∷ qs) (minus-nothing ps)

pub adding-each_once : (os : List Id) → adding [] os ≡ each_once os
adding-each_once os = adding-minus [] os ∙ minus-nothing (each_once os)
