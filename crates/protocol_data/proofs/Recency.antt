-- A cache whose keys are distinct does to its copies what lists of copies have done to them.
use Rattle.std.proofs.Common.{◌≡◌, ℕ, zero, suc, ◌+◌, ◌-◌, ◌≤◌, ◌∷◌, ◌++◌, [], Bool, true, false, List, Option, Some, None, MatchOption, Bor, refl, sym, ap, ◌∙◌, arith, cond, length, subst, take}
use Rattle.std.proofs.lemmas.Bool.Decides.{nat_tests}
use Rattle.std.specs.Prelude.{not, ◌==◌, ◌&&◌, ◌||◌}
use Rattle.std.specs.List.{AllByRecursion, IsDistinct, find, list_any}
use Rattle.std.specs.Map.{keys_of, lookup, lookup_entry, remove_entry}
use Rattle.std.specs.Option.{is_some, option_copied, option_map, option_map_or}
use Rattle.lru.specs.LruCache.{IsValid, LruCache, lru_cache, promoted, put_entries}
use Rattle.meaning.specs.Births.{same_id}
use Rattle.meaning.specs.Values.{Id, Outcome}
use Rattle.meaning.proofs.BirthLaws.{same_id-true}
use Rattle.sequence.proofs.Places.{and_left}
use Rattle.protocol_data.specs.Recent.{copies_of, copy_in, key_in, same_key, with_first}
use Rattle.protocol_data.specs.Shelves.{is_sought, without}
use Rattle.protocol_data.specs.declared.secondaries.CopyKey.{CopyKey}
use Rattle.protocol_data.specs.declared.store.Copy.{Copy}

-- an entry of a cache
abbrev Kept : Type 0
Kept = CopyKey × Outcome

-- ---- keys

and_right : (a b : Bool) → (a && b) ≡ true → b ≡ true
and_right true b h = h
and_right false b h = absurd cc

equal_numbers : (m n : ℕ) → (m == n) ≡ true → m ≡ n
equal_numbers m n h = grind (arith, nat_tests, h)

abbrev key : Id → ℕ → CopyKey
key o n = record { object = o; number = n }

pub same_key-true : (a b : CopyKey) → same_key a b ≡ true → a ≡ b
unfolding same_id
same_key-true a b h = of_parts (same_id-true a.object b.object (and_left (same_id a.object b.object) (a.number == b.number) h))
    (equal_numbers a.number b.number (and_right (same_id a.object b.object) (a.number == b.number) h))
  where
    of_parts : a.object ≡ b.object → a.number ≡ b.number → a ≡ b
    of_parts e f = ap (λ o. key o a.number) e ∙ ap (λ n. key b.object n) f

number_same : (n : ℕ) → (n == n) ≡ true
number_same n = grind (arith, nat_tests)

id_same : (o : Id) → same_id o o ≡ true
unfolding same_id
id_same o = ap (λ b. b && (o.serial == o.serial)) (number_same o.owner) ∙ number_same o.serial

key_same : (k : CopyKey) → same_key k k ≡ true
key_same k = ap (λ b. b && (k.number == k.number)) (parts_same k.object) ∙ number_same k.number
  where
    parts_same : (o : Id) → ((o.owner == o.owner) && (o.serial == o.serial)) ≡ true
    parts_same o = ap (λ b. b && (o.serial == o.serial)) (number_same o.owner) ∙ number_same o.serial

both_ways : (s t : Bool) → (s ≡ true → t ≡ true) → (t ≡ true → s ≡ true) → s ≡ t
both_ways true t f g = sym (f refl)
both_ways false true f g = g refl
both_ways false false f g = refl

key_turned : (a b : CopyKey) → same_key a b ≡ same_key b a
key_turned a b = both_ways (same_key a b) (same_key b a) (turn a b) (turn b a)
  where
    turn : (a b : CopyKey) → same_key a b ≡ true → same_key b a ≡ true
    turn a b h = subst (λ k. same_key k a ≡ true) (same_key-true a b h) (key_same a)

-- a copy is sought by what it is known by
by_key : (k : CopyKey) (e : Kept) → is_sought k.object (Some k.number) (copy_in e) ≡ same_key k e.0
unfolding same_id
by_key k e = key_turned e.0 k

-- ---- searches

-- what is looked for by the key of a copy is there or not
pub content_sought : (k : CopyKey) (es : List Kept) → option_map (λ x. x.content) (find (is_sought k.object (Some k.number)) (copies_of es)) ≡ lookup (same_key k) es
content_sought k [] = refl
content_sought k (e ∷ es) =
    ap (λ b. option_map (λ x. x.content) (cond b (Some (copy_in e)) (find (is_sought k.object (Some k.number)) (copies_of es)))) (by_key k e)
    ∙ by_test (content_sought k es) (same_key k e.0)
  where
    by_test : option_map (λ x. x.content) (find (is_sought k.object (Some k.number)) (copies_of es)) ≡ lookup (same_key k) es → (b : Bool) →
        option_map (λ x. x.content) (cond b (Some (copy_in e)) (find (is_sought k.object (Some k.number)) (copies_of es))) ≡ cond b (Some e.1) (lookup (same_key k) es)
    by_test rest true = refl
    by_test rest false = rest

sought_entry : (k : CopyKey) (es : List Kept) → find (is_sought k.object (Some k.number)) (copies_of es) ≡ option_map copy_in (lookup_entry (same_key k) es)
sought_entry k [] = refl
sought_entry k (e ∷ es) =
    ap (λ b. cond b (Some (copy_in e)) (find (is_sought k.object (Some k.number)) (copies_of es))) (by_key k e) ∙ by_test (sought_entry k es) (same_key k e.0)
  where
    by_test : find (is_sought k.object (Some k.number)) (copies_of es) ≡ option_map copy_in (lookup_entry (same_key k) es) → (b : Bool) →
        cond b (Some (copy_in e)) (find (is_sought k.object (Some k.number)) (copies_of es)) ≡ option_map copy_in (cond b (Some e) (lookup_entry (same_key k) es))
    by_test rest true = refl
    by_test rest false = rest

entry_key : (k : CopyKey) (es : List Kept) (f : Kept) → lookup_entry (same_key k) es ≡ Some f → f.0 ≡ k
entry_key k [] f h = absurd cc
entry_key k (e ∷ es) f h = by_test (entry_key k es f) (same_key k e.0) refl h
  where
    by_test : (lookup_entry (same_key k) es ≡ Some f → f.0 ≡ k) → (b : Bool) → same_key k e.0 ≡ b → cond b (Some e) (lookup_entry (same_key k) es) ≡ Some f → f.0 ≡ k
    by_test rest true t h = let same : e ≡ f = cc in subst (λ (g : Kept). g.0 ≡ k) same (sym (same_key-true k e.0 t))
    by_test rest false t h = rest h

none_of : (o : Option Copy) → None ≡ option_map (λ x. x.content) o → o ≡ None
none_of None e = refl
none_of (Some x) e = absurd cc

-- what a look-up lends
pub lent : (k : CopyKey) (es : List Kept) (r : Option (Bor Outcome)) → option_copied r ≡ lookup (same_key k) es →
    MatchOption r (find (is_sought k.object (Some k.number)) (copies_of es) ≡ None) (λ c. option_map (λ x. x.content) (find (is_sought k.object (Some k.number)) (copies_of es)) ≡ Some c.now)
lent k es None e = none_of (find (is_sought k.object (Some k.number)) (copies_of es)) (e ∙ sym (content_sought k es))
lent k es (Some c) e = content_sought k es ∙ sym e

-- ---- what is taken out

-- a key that no entry has takes no copy out
none_sought : (k j : CopyKey) (es : List Kept) → k ≡ j → AllByRecursion (λ y. same_key j y ≡ false) (keys_of es) → without k.object (Some k.number) (copies_of es) ≡ copies_of es
none_sought k j [] s d = refl
none_sought k j (e ∷ es) s d =
    ap (λ b. cond (not b) (copy_in e ∷ without k.object (Some k.number) (copies_of es)) (without k.object (Some k.number) (copies_of es)))
    (by_key k e ∙ ap (λ i. same_key i e.0) s ∙ d.0)
    ∙ ap (λ ys. copy_in e ∷ ys) (none_sought k j es s d.1)

-- where each key is there once, the copies but that of the key
removed_one : (k : CopyKey) (es : List Kept) → IsDistinct same_key (keys_of es) → copies_of (remove_entry (same_key k) es) ≡ without k.object (Some k.number) (copies_of es)
unfolding IsDistinct
removed_one k [] d = refl
removed_one k (e ∷ es) d =
    by_test (removed_one k es d.1) (same_key k e.0) refl
    ∙ sym (ap (λ b. cond (not b) (copy_in e ∷ without k.object (Some k.number) (copies_of es)) (without k.object (Some k.number) (copies_of es))) (by_key k e))
  where
    by_test : copies_of (remove_entry (same_key k) es) ≡ without k.object (Some k.number) (copies_of es) → (b : Bool) → same_key k e.0 ≡ b → copies_of (cond b es (e ∷ remove_entry (same_key k) es))
        ≡ cond (not b) (copy_in e ∷ without k.object (Some k.number) (copies_of es)) (without k.object (Some k.number) (copies_of es))
    by_test rest true t = sym (none_sought k e.0 es (same_key-true k e.0 t) d.0)
    by_test rest false t = ap (λ ys. copy_in e ∷ ys) rest

-- where no entry has the key nothing goes
none_goes : (k : CopyKey) (es : List Kept) → lookup_entry (same_key k) es ≡ None → without k.object (Some k.number) (copies_of es) ≡ copies_of es
none_goes k [] h = refl
none_goes k (e ∷ es) h = by_test (none_goes k es) (same_key k e.0) refl h
  where
    by_test : (lookup_entry (same_key k) es ≡ None → without k.object (Some k.number) (copies_of es) ≡ copies_of es) → (b : Bool) → same_key k e.0 ≡ b →
        cond b (Some e) (lookup_entry (same_key k) es) ≡ None → without k.object (Some k.number) (copies_of (e ∷ es)) ≡ copies_of (e ∷ es)
    by_test rest true t h = absurd cc
    by_test rest false t h =
        ap (λ b. cond (not b) (copy_in e ∷ without k.object (Some k.number) (copies_of es)) (without k.object (Some k.number) (copies_of es))) (by_key k e ∙ t)
        ∙ ap (λ ys. copy_in e ∷ ys) (rest h)

one_less : (k : CopyKey) (es : List Kept) (f : Kept) → lookup_entry (same_key k) es ≡ Some f → length (remove_entry (same_key k) es) + 1 ≡ length es
one_less k [] f h = absurd cc
one_less k (e ∷ es) f h = by_test (one_less k es f) (same_key k e.0) h
  where
    by_test : (lookup_entry (same_key k) es ≡ Some f → length (remove_entry (same_key k) es) + 1 ≡ length es) → (b : Bool) → cond b (Some e) (lookup_entry (same_key k) es) ≡ Some f → length (cond b es (e ∷ remove_entry (same_key k) es)) + 1 ≡ length (e ∷ es)
    by_test rest true h = omega arith
    by_test rest false h = let fewer = rest h in omega (arith, fewer)

-- ---- what comes first

all_taken : {X : Type 0} (n : ℕ) (xs : List X) → length xs ≤ n → take n xs ≡ xs
all_taken zero [] l = refl
all_taken zero (x ∷ xs) l = absurd (omega (arith, l))
all_taken (suc n) [] l = refl
all_taken (suc n) (x ∷ xs) l = ap (λ ys. x ∷ ys) (all_taken n xs (omega (arith, l)))

taken_copies : (n : ℕ) (es : List Kept) → copies_of (take n es) ≡ take n (copies_of es)
taken_copies zero es = refl
taken_copies (suc n) [] = refl
taken_copies (suc n) (e ∷ es) = ap (λ ys. copy_in e ∷ ys) (taken_copies n es)

as_many : (es : List Kept) → length (copies_of es) ≡ length es
as_many [] = refl
as_many (e ∷ es) = let rest = as_many es in omega (arith, rest)

pub put_first : (c : LruCache CopyKey Outcome) (x : Copy) → c.cap ≡ 16 → IsValid same_key c →
    copies_of (put_entries same_key c (key_in x) x.content) ≡ take 16 (x ∷ without x.object (Some x.number) (copies_of c.entries))
put_first c x full valid = by_entry (lookup_entry (same_key (key_in x)) c.entries) refl
  where
    is_new : lookup_entry (same_key (key_in x)) c.entries ≡ None → copies_of (take (c.cap - 1) c.entries) ≡ take 15 (without x.object (Some x.number) (copies_of c.entries))
    is_new h =
        ap (λ n. copies_of (take (n - 1) c.entries)) full ∙ taken_copies 15 c.entries ∙ ap (take 15) (sym (none_goes (key_in x) c.entries h))

    is_again : (f : Kept) → lookup_entry (same_key (key_in x)) c.entries ≡ Some f →
        copies_of (remove_entry (same_key (key_in x)) c.entries) ≡ take 15 (without x.object (Some x.number) (copies_of c.entries))
    is_again f h =
        let fewer = one_less (key_in x) c.entries f h in
        let fits = valid.1 in
        let others = copies_of (remove_entry (same_key (key_in x)) c.entries) in
        let count = as_many (remove_entry (same_key (key_in x)) c.entries) in
        sym (all_taken 15 others (omega (arith, fewer, fits, full, count))) ∙ ap (take 15) (removed_one (key_in x) c.entries valid.0)

    by_entry : (o : Option Kept) → lookup_entry (same_key (key_in x)) c.entries ≡ o →
        copies_of (option_map_or (λ e. (e.0, x.content) ∷ remove_entry (same_key (key_in x)) c.entries) o ((key_in x, x.content) ∷ take (c.cap - 1) c.entries))
        ≡ x ∷ take 15 (without x.object (Some x.number) (copies_of c.entries))
    by_entry None h = ap (λ ys. x ∷ ys) (is_new h)
    by_entry (Some f) h =
        ap (λ k. copy_in (k, x.content) ∷ copies_of (remove_entry (same_key (key_in x)) c.entries)) (entry_key (key_in x) c.entries f h)
        ∙ ap (λ ys. x ∷ ys) (is_again f h)

pub brought_first : (k : CopyKey) (c : LruCache CopyKey Outcome) → IsValid same_key c →
    copies_of (promoted (same_key k) c.entries) ≡ with_first (find (is_sought k.object (Some k.number)) (copies_of c.entries)) (copies_of c.entries)
brought_first k c valid =
    by_entry (lookup_entry (same_key k) c.entries) refl ∙ ap (λ o. with_first o (copies_of c.entries)) (sym (sought_entry k c.entries))
  where
    by_entry : (o : Option Kept) → lookup_entry (same_key k) c.entries ≡ o →
        copies_of (option_map_or (λ e. e ∷ remove_entry (same_key k) c.entries) o c.entries) ≡ with_first (option_map copy_in o) (copies_of c.entries)
    by_entry None h = refl
    by_entry (Some f) h =
        ap (λ ys. copy_in f ∷ ys)
        (removed_one k c.entries valid.0 ∙ ap (λ (j : CopyKey). without j.object (Some j.number) (copies_of c.entries)) (sym (entry_key k c.entries f h)))

-- ---- all copies of an object

-- one of them is taken out
pub one_of_all : (o : Id) (k : CopyKey) (es : List Kept) → k.object ≡ o → without o None (copies_of (remove_entry (same_key k) es)) ≡ without o None (copies_of es)
one_of_all o k [] s = refl
one_of_all o k (e ∷ es) s = by_test (one_of_all o k es s) (same_key k e.0) refl
  where
    by_test : without o None (copies_of (remove_entry (same_key k) es)) ≡ without o None (copies_of es) → (b : Bool) → same_key k e.0 ≡ b → without o None (copies_of (cond b es (e ∷ remove_entry (same_key k) es))) ≡ without o None (copies_of (e ∷ es))
    by_test rest true t =
        sym (ap (λ b. cond (not b) (copy_in e ∷ without o None (copies_of es)) (without o None (copies_of es)))
        (ap (λ (j : CopyKey). same_id j.object o) (sym (same_key-true k e.0 t)) ∙ ap (λ i. same_id i o) s ∙ id_same o))
    by_test rest false t = ap (λ ys. cond (not (same_id e.0.object o)) (copy_in e ∷ ys) ys) rest

some_is : (a b : CopyKey) → Some a ≡ Some b → a ≡ b
some_is a b e = cc

-- a copy of the object that is found
pub found_entry : (o : Id) (es : List Kept) (k : CopyKey) → option_map key_in (find (is_sought o None) (copies_of es)) ≡ Some k →
    (k.object ≡ o) × (length (remove_entry (same_key k) es) + 1 ≡ length es)
found_entry o [] k h = absurd cc
found_entry o (e ∷ es) k h = by_test (found_entry o es k) (same_id e.0.object o) refl h
  where
    fewer : (b : Bool) → same_key k e.0 ≡ b → (length (remove_entry (same_key k) es) + 1 ≡ length es) → length (cond b es (e ∷ remove_entry (same_key k) es)) + 1 ≡ length (e ∷ es)
    fewer true t l = omega arith
    fewer false t l = omega (arith, l)

    by_test : (option_map key_in (find (is_sought o None) (copies_of es)) ≡ Some k → (k.object ≡ o) × (length (remove_entry (same_key k) es) + 1 ≡ length es)) →
        (b : Bool) → same_id e.0.object o ≡ b → option_map key_in (cond b (Some (copy_in e)) (find (is_sought o None) (copies_of es))) ≡ Some k →
        (k.object ≡ o) × (length (remove_entry (same_key k) (e ∷ es)) + 1 ≡ length (e ∷ es))
    by_test rest true t h =
        let same : e.0 ≡ k = some_is e.0 k h in (
          ap (λ (j : CopyKey). j.object) (sym same) ∙ same_id-true e.0.object o t,
          ap (λ b. length (cond b es (e ∷ remove_entry (same_key k) es)) + 1) (ap (same_key k) same ∙ key_same k) ∙ omega arith,
        )
    by_test rest false t h = ((rest h).0, fewer (same_key k e.0) refl (rest h).1)

-- where none is found none goes
pub none_of_all : (o : Id) (xs : List Copy) → option_map key_in (find (is_sought o None) xs) ≡ None → without o None xs ≡ xs
none_of_all o [] h = refl
none_of_all o (x ∷ xs) h = by_test (none_of_all o xs) (same_id x.object o) h
  where
    by_test : (option_map key_in (find (is_sought o None) xs) ≡ None → without o None xs ≡ xs) → (b : Bool) → option_map key_in (cond b (Some x) (find (is_sought o None) xs)) ≡ None → cond (not b) (x ∷ without o None xs) (without o None xs) ≡ x ∷ xs
    by_test rest true h = absurd cc
    by_test rest false h = ap (λ ys. x ∷ ys) (rest h)

-- one is found where there is one
pub any_found : (o : Id) (xs : List Copy) → list_any (is_sought o None) xs ≡ is_some (option_map key_in (find (is_sought o None) xs))
any_found o [] = refl
any_found o (x ∷ xs) = by_test (any_found o xs) (same_id x.object o)
  where
    by_test : list_any (is_sought o None) xs ≡ is_some (option_map key_in (find (is_sought o None) xs)) → (b : Bool) → (b || list_any (is_sought o None) xs) ≡ is_some (option_map key_in (cond b (Some x) (find (is_sought o None) xs)))
    by_test rest true = refl
    by_test rest false = rest

-- ---- an equal cache

behind : (t : List Kept) (e : Kept) (es : List Kept) → (t ++ e ∷ []) ++ es ≡ t ++ e ∷ es
behind [] e es = refl
behind (x ∷ t) e es = ap (λ ys. x ∷ ys) (behind t e es)

last_distinct : (t es : List Kept) → IsDistinct same_key (keys_of (t ++ es)) → IsDistinct same_key (keys_of es)
unfolding IsDistinct
last_distinct [] es d = d
last_distinct (x ∷ t) es d = last_distinct t es d.1

last_fewer : (t es : List Kept) → length es ≤ length (t ++ es)
last_fewer [] es = omega arith
last_fewer (x ∷ t) es = let rest = last_fewer t es in omega (arith, rest)

not_there : (k : CopyKey) (es : List Kept) → AllByRecursion (λ y. same_key k y ≡ false) (keys_of es) → lookup_entry (same_key k) es ≡ None
not_there k [] d = refl
not_there k (e ∷ es) d = ap (λ b. cond b (Some e) (lookup_entry (same_key k) es)) d.0 ∙ not_there k es d.1

put_new : (again : LruCache CopyKey Outcome) (k : CopyKey) (v : Outcome) → IsDistinct same_key (keys_of ((k, v) ∷ again.entries)) → length again.entries ≤ again.cap - 1 →
    put_entries same_key again k v ≡ (k, v) ∷ again.entries
unfolding IsDistinct
put_new again k v d few =
    ap (λ o. option_map_or (λ f. (f.0, v) ∷ remove_entry (same_key k) again.entries) o ((k, v) ∷ take (again.cap - 1) again.entries)) (not_there k again.entries d.0)
    ∙ ap (λ ys. (k, v) ∷ ys) (all_taken (again.cap - 1) again.entries few)

-- the last of those that are left is put as the first
pub put_back : (c again : LruCache CopyKey Outcome) (rest t : List Kept) (k : CopyKey) (v : Outcome) → IsValid same_key c → again.cap ≡ c.cap → rest ++ again.entries ≡ c.entries →
    rest ≡ t ++ (k, v) ∷ [] → t ++ put_entries same_key again k v ≡ c.entries
put_back c again rest t k v valid full e l =
    let all : t ++ (k, v) ∷ again.entries ≡ c.entries = sym (behind t (k, v) again.entries) ∙ ap (λ ys. ys ++ again.entries) (sym l) ∙ e in
    ap (λ ys. t ++ ys) (put_new again k v (last_distinct t ((k, v) ∷ again.entries) (subst (λ ys. IsDistinct same_key (keys_of ys)) (sym all) valid.0)) (fits all)) ∙ all
  where
    fits : t ++ (k, v) ∷ again.entries ≡ c.entries → length again.entries ≤ again.cap - 1
    fits all =
        let few = last_fewer t ((k, v) ∷ again.entries) in
        let same = ap length all in
        let most = valid.1 in
        omega (arith, few, same, most, full)

pub whole_again : (c again : LruCache CopyKey Outcome) → again.cap ≡ c.cap → again.entries ≡ c.entries → again ≡ c
whole_again c again n e = ap (λ es. lru_cache es again.cap) e ∙ ap (λ m. lru_cache c.entries m) n
