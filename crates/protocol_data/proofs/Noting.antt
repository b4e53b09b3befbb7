-- What was surely never asked for isn't among the asks, and an ask that is found is the only one of its key.
use Rattle.std.proofs.Common.{◌≡◌, ℕ, zero, suc, ◌<◌, ◌≤◌, ◌∷◌, ◌++◌, [], Bool, true, false, List, Some, None, refl, sym, ap, ◌∙◌, arith, cond, length, length-append, subst}
use Rattle.std.proofs.lemmas.Bool.Decides.{nat_tests}
use Rattle.std.specs.Prelude.{Option, nat_lt, not, ◌||◌, ◌==◌, slice_get, slice_set}
use Rattle.std.specs.List.{filter, find, list_any}
use Rattle.std.specs.Option.{option_map}
use Rattle.meaning.specs.Values.{Id}
use Rattle.event_log.specs.Entries.{Attempt}
use Rattle.event_log.specs.Words.{same_attempt}
use Rattle.event_log.proofs.WordLaws.{same_attempt-true}
use Rattle.sequence.proofs.Places.{and_left, and_right, or_left, or_right}
use Rattle.protocol_data.specs.declared.node.AskKey.{AskKey}
use Rattle.protocol_data.specs.declared.node.Asked.{Asked}
use Rattle.protocol_data.specs.declared.node.AskReply.{AskReply}
use Rattle.protocol_data.specs.Marked.{AreMarked, can_be_marked, is_that_row, marks_or, may_be_marked, there}
use Rattle.protocol_data.specs.Noted.{AreBounded, AreDistinct, is_that_ask, may_be_noted, serial_or}

true_false : true ≡ false → ⊥
true_false e = cc

neither : (a b : Bool) → a ≡ false → b ≡ false → (a || b) ≡ false
neither false b e f = f
neither true b e f = absurd (true_false e)

left_false : (a b : Bool) → (a || b) ≡ false → a ≡ false
left_false false b h = refl
left_false true b h = absurd (true_false h)

right_false : (a b : Bool) → (a || b) ≡ false → b ≡ false
right_false false b h = h
right_false true b h = absurd (true_false h)

key_parts : (a b : Attempt) (m n : ℕ) → a ≡ b → m ≡ n → ◌≡◌ {A = AskKey} (record { attempt = a; hops = m }) (record { attempt = b; hops = n })
key_parts a b m n e f = cc

same_number : (m n : ℕ) → (m == n) ≡ true → m ≡ n
same_number m n h = grind (arith, nat_tests, h)

pub key_is : (k : AskKey) (x : Asked) → is_that_ask k x ≡ true → x.key ≡ k
key_is k x h =
    key_parts x.key.attempt k.attempt x.key.hops k.hops (same_attempt-true x.key.attempt k.attempt (and_left (same_attempt x.key.attempt k.attempt) (x.key.hops == k.hops) h))
    (same_number x.key.hops k.hops (and_right (same_attempt x.key.attempt k.attempt) (x.key.hops == k.hops) h))

-- one without a mark isn't there
pub unmarked : (marks : List (List ℕ)) (xs : List Asked) (k : AskKey) → AreMarked marks xs → may_be_marked marks k.attempt.object ≡ false → list_any (is_that_ask k) xs ≡ false
unmarked marks [] k n h = refl
unmarked marks (x ∷ xs) k n h = neither (is_that_ask k x) (list_any (is_that_ask k) xs) (other (is_that_ask k x) refl) (unmarked marks xs k n.1 h)
  where
    other : (b : Bool) → is_that_ask k x ≡ b → b ≡ false
    other false e = refl
    other true e = absurd (true_false (sym n.0 ∙ ap (λ j. may_be_marked marks j.attempt.object) (key_is k x e) ∙ h))

pub without_mark : (marks : List (List ℕ)) (o p : Id) (m : ℕ) (b : Bool) → o ≡ p → m ≡ serial_or (slice_get (marks_or (slice_get marks o.owner)) o.serial) →
    b ≡ (not (can_be_marked o) || nat_lt 0 m) → b ≡ false → may_be_marked marks p ≡ false
without_mark marks o p m b s e t h = ap (may_be_marked marks) (sym s) ∙ ap (λ n. not (can_be_marked o) || nat_lt 0 n) (sym e) ∙ sym t ∙ h

pub none_found : (p : Asked → Bool) (xs : List Asked) → list_any p xs ≡ false → find p xs ≡ None
none_found p [] h = refl
none_found p (x ∷ xs) h = ap (λ b. cond b (Some x) (find p xs)) (left_false (p x) (list_any p xs) h) ∙ none_found p xs (right_false (p x) (list_any p xs) h)

pub none_taken : (p : Asked → Bool) (xs : List Asked) → list_any p xs ≡ false → filter (λ r. not (p r)) xs ≡ xs
none_taken p [] h = refl
none_taken p (x ∷ xs) h =
    ap (λ b. cond (not b) (x ∷ filter (λ r. not (p r)) xs) (filter (λ r. not (p r)) xs)) (left_false (p x) (list_any p xs) h)
    ∙ ap (λ ys. x ∷ ys) (none_taken p xs (right_false (p x) (list_any p xs) h))

some_is : {X : Type 0} (x y : X) → Some x ≡ Some y → x ≡ y
some_is x y e = cc

none_is : {X : Type 0} (x : X) → ◌≡◌ {A = Option (Option X)} (Some None) (Some (Some x)) → ⊥
none_is x e = absurd cc

some_row_is : {X : Type 0} (x y : X) → Some (Some x) ≡ Some (Some y) → x ≡ y
some_row_is x y e = cc

any_there : (p : Asked → Bool) (rows : List (Option Asked)) (i : ℕ) (x : Asked) → slice_get rows i ≡ Some (Some x) → p x ≡ true → list_any p (there rows) ≡ true
any_there p [] i x e h = absurd cc
any_there p (None ∷ rows) zero x e h = absurd (none_is x e)
any_there p (None ∷ rows) (suc i) x e h = any_there p rows i x e h
any_there p (Some y ∷ rows) zero x e h = or_left (p y) (list_any p (there rows)) (ap p (some_row_is y x e) ∙ h)
any_there p (Some y ∷ rows) (suc i) x e h = or_right (p y) (list_any p (there rows)) (any_there p rows i x e h)

-- one that stands further on is another
first_is_other : (y : Asked) (rows : List (Option Asked)) (i : ℕ) (x : Asked) (k : AskKey) → list_any (is_that_ask y.key) (there rows) ≡ false → slice_get rows i ≡ Some (Some x) →
    is_that_ask k x ≡ true → is_that_ask k y ≡ false
first_is_other y rows i x k d e h = other (is_that_ask k y) refl
  where
    other : (b : Bool) → is_that_ask k y ≡ b → b ≡ false
    other false g = refl
    other true g = absurd (true_false (sym (any_there (is_that_ask k) rows i x e h) ∙ ap (λ j. list_any (is_that_ask j) (there rows)) (sym (key_is k y g)) ∙ d))

pub found_at : (rows : List (Option Asked)) (i : ℕ) (x : Asked) (k : AskKey) → AreDistinct (there rows) → slice_get rows i ≡ Some (Some x) → is_that_ask k x ≡ true →
    find (is_that_ask k) (there rows) ≡ Some x
found_at [] i x k d e h = absurd cc
found_at (None ∷ rows) zero x k d e h = absurd (none_is x e)
found_at (None ∷ rows) (suc i) x k d e h = found_at rows i x k d e h
found_at (Some y ∷ rows) zero x k d e h =
    let same : y ≡ x = some_row_is y x e in
    ap (λ b. cond b (Some y) (find (is_that_ask k) (there rows))) (ap (is_that_ask k) same ∙ h) ∙ ap Some same
found_at (Some y ∷ rows) (suc i) x k d e h =
    ap (λ b. cond b (Some y) (find (is_that_ask k) (there rows))) (first_is_other y rows i x k d.0 e h) ∙ found_at rows i x k d.1 e h

pub taken_at : (rows : List (Option Asked)) (i : ℕ) (x : Asked) (k : AskKey) → AreDistinct (there rows) → slice_get rows i ≡ Some (Some x) → is_that_ask k x ≡ true →
    filter (λ r. not (is_that_ask k r)) (there rows) ≡ there (slice_set rows i None)
taken_at [] i x k d e h = absurd cc
taken_at (None ∷ rows) zero x k d e h = absurd (none_is x e)
taken_at (None ∷ rows) (suc i) x k d e h = taken_at rows i x k d e h
taken_at (Some y ∷ rows) zero x k d e h =
    let same : y ≡ x = some_row_is y x e in
    let that : is_that_ask k y ≡ true = ap (is_that_ask k) same ∙ h in
    ap (λ b. cond (not b) (y ∷ filter (λ r. not (is_that_ask k r)) (there rows)) (filter (λ r. not (is_that_ask k r)) (there rows))) that
    ∙ none_taken (is_that_ask k) (there rows) (ap (λ j. list_any (is_that_ask j) (there rows)) (sym (key_is k y that)) ∙ d.0)
taken_at (Some y ∷ rows) (suc i) x k d e h =
    ap (λ b. cond (not b) (y ∷ filter (λ r. not (is_that_ask k r)) (there rows)) (filter (λ r. not (is_that_ask k r)) (there rows))) (first_is_other y rows i x k d.0 e h)
    ∙ ap (λ zs. y ∷ zs) (taken_at rows i x k d.1 e h)

none_in_filter : (p q : Asked → Bool) (xs : List Asked) → list_any p xs ≡ false → list_any p (filter q xs) ≡ false
none_in_filter p q [] h = refl
none_in_filter p q (x ∷ xs) h = by_test (none_in_filter p q xs (right_false (p x) (list_any p xs) h)) (q x)
  where
    by_test : list_any p (filter q xs) ≡ false → (b : Bool) → list_any p (cond b (x ∷ filter q xs) (filter q xs)) ≡ false
    by_test rest true = neither (p x) (list_any p (filter q xs)) (left_false (p x) (list_any p xs) h) rest
    by_test rest false = rest

pub distinct_filter : (q : Asked → Bool) (xs : List Asked) → AreDistinct xs → AreDistinct (filter q xs)
distinct_filter q [] d = tt
distinct_filter q (x ∷ xs) d = by_test (distinct_filter q xs d.1) (q x)
  where
    by_test : AreDistinct (filter q xs) → (b : Bool) → AreDistinct (cond b (x ∷ filter q xs) (filter q xs))
    by_test rest true = (none_in_filter (is_that_ask x.key) q xs d.0, rest)
    by_test rest false = rest

pub marked_filter : (marks : List (List ℕ)) (q : Asked → Bool) (xs : List Asked) → AreMarked marks xs → AreMarked marks (filter q xs)
marked_filter marks q [] d = tt
marked_filter marks q (x ∷ xs) d = by_test (marked_filter marks q xs d.1) (q x)
  where
    by_test : AreMarked marks (filter q xs) → (b : Bool) → AreMarked marks (cond b (x ∷ filter q xs) (filter q xs))
    by_test rest true = (d.0, rest)
    by_test rest false = rest

none_left : (k : AskKey) (xs : List Asked) → list_any (is_that_ask k) (filter (λ r. not (is_that_ask k r)) xs) ≡ false
none_left k [] = refl
none_left k (x ∷ xs) = by_test (none_left k xs) (is_that_ask k x) refl
  where
    by_test : list_any (is_that_ask k) (filter (λ r. not (is_that_ask k r)) xs) ≡ false → (b : Bool) → is_that_ask k x ≡ b → list_any (is_that_ask k) (cond (not b) (x ∷ filter (λ r. not (is_that_ask k r)) xs) (filter (λ r. not (is_that_ask k r)) xs)) ≡ false
    by_test rest true e = rest
    by_test rest false e = neither (is_that_ask k x) (list_any (is_that_ask k) (filter (λ r. not (is_that_ask k r)) xs)) e rest

none_with : (p : Asked → Bool) (xs : List Asked) (y : Asked) → list_any p xs ≡ false → p y ≡ false → list_any p (xs ++ y ∷ []) ≡ false
none_with p [] y h g = neither (p y) false g refl
none_with p (x ∷ xs) y h g = neither (p x) (list_any p (xs ++ y ∷ [])) (left_false (p x) (list_any p xs) h) (none_with p xs y (right_false (p x) (list_any p xs) h) g)

distinct_push : (xs : List Asked) (y : Asked) → AreDistinct xs → list_any (is_that_ask y.key) xs ≡ false → AreDistinct (xs ++ y ∷ [])
distinct_push [] y d h = (refl, tt)
distinct_push (x ∷ xs) y d h =
    (none_with (is_that_ask x.key) xs y d.0 (other (is_that_ask x.key y) refl), distinct_push xs y d.1 (right_false (is_that_ask y.key x) (list_any (is_that_ask y.key) xs) h))
  where
    back : is_that_ask x.key y ≡ true → is_that_ask y.key x ≡ true
    back e = ap (λ j. is_that_ask j x) (key_is x.key y e) ∙ ap (λ j. is_that_ask x.key (record x { key = j })) (sym (key_is x.key y e)) ∙ e

    other : (b : Bool) → is_that_ask x.key y ≡ b → b ≡ false
    other false e = refl
    other true e = absurd (true_false (sym (back e) ∙ left_false (is_that_ask y.key x) (list_any (is_that_ask y.key) xs) h))

marked_push : (marks : List (List ℕ)) (xs : List Asked) (y : Asked) → AreMarked marks xs → may_be_marked marks y.key.attempt.object ≡ true → AreMarked marks (xs ++ y ∷ [])
marked_push marks [] y n h = (h, tt)
marked_push marks (x ∷ xs) y n h = (n.0, marked_push marks xs y n.1 h)

pub marked_more : (marks wider : List (List ℕ)) (xs : List Asked) → ((o : Id) → may_be_marked marks o ≡ true → may_be_marked wider o ≡ true) → AreMarked marks xs → AreMarked wider xs
marked_more marks wider [] f n = tt
marked_more marks wider (x ∷ xs) f n = (f x.key.attempt.object n.0, marked_more marks wider xs f n.1)

-- the asks but that one, and then that one
pub distinct_put : (k : AskKey) (xs : List Asked) (y : Asked) → y.key ≡ k → AreDistinct xs → AreDistinct (filter (λ r. not (is_that_ask k r)) xs ++ y ∷ [])
distinct_put k xs y e d =
    distinct_push (filter (λ r. not (is_that_ask k r)) xs) y (distinct_filter (λ r. not (is_that_ask k r)) xs d)
    (ap (λ j. list_any (is_that_ask j) (filter (λ r. not (is_that_ask k r)) xs)) e ∙ none_left k xs)

pub marked_put : (marks : List (List ℕ)) (k : AskKey) (xs : List Asked) (y : Asked) → y.key ≡ k → AreMarked marks xs → may_be_marked marks k.attempt.object ≡ true →
    AreMarked marks (filter (λ r. not (is_that_ask k r)) xs ++ y ∷ [])
marked_put marks k xs y e n h =
    marked_push marks (filter (λ r. not (is_that_ask k r)) xs) y (marked_filter marks (λ r. not (is_that_ask k r)) xs n) (ap (λ j. may_be_marked marks j.attempt.object) e ∙ h)

-- ---- what the code looks up

within : {X : Type 0} (xs : List X) (i : ℕ) (x : X) → slice_get xs i ≡ Some x → i < length xs
within [] i x e = absurd cc
within (y ∷ ys) zero x e = omega arith
within (y ∷ ys) (suc i) x e = omega (arith, within ys i x e)

pub is_within : (rows : List (Option Asked)) (i : ℕ) (k : AskKey) → (x : Asked) × (slice_get rows i ≡ Some (Some x)) × (is_that_ask k x ≡ true) → i < length rows
is_within rows i k f = within rows i (Some f.0) f.1

pub none_there : (rows : List (Option Asked)) (k : AskKey) → ((i : ℕ) (r : Option Asked) → slice_get rows i ≡ Some r → is_that_row k r ≡ false) → list_any (is_that_ask k) (there rows) ≡ false
none_there [] k f = refl
none_there (None ∷ rows) k f = none_there rows k (λ i r e. f (suc i) r e)
none_there (Some x ∷ rows) k f = neither (is_that_ask k x) (list_any (is_that_ask k) (there rows)) (f 0 (Some x) refl) (none_there rows k (λ i r e. f (suc i) r e))

pub none_up_to : (rows : List (Option Asked)) (k : AskKey) (n : ℕ) → ((i : ℕ) (r : Option Asked) → i < n → slice_get rows i ≡ Some r → is_that_row k r ≡ false) → length rows ≤ n →
    list_any (is_that_ask k) (there rows) ≡ false
none_up_to rows k n f l = none_there rows k (λ i r e. let m = within rows i r e in f i r (omega (arith, l, m)) e)

pub no_reply : (xs : List Asked) (k : AskKey) → list_any (is_that_ask k) xs ≡ false → option_map (λ r. r.reply) (find (is_that_ask k) xs) ≡ None
no_reply xs k h = ap (option_map (λ r. r.reply)) (none_found (is_that_ask k) xs h)

pub reply_at : (rows : List (Option Asked)) (i : ℕ) (k : AskKey) (r : Option Asked) → AreDistinct (there rows) →
    (x : Asked) × (slice_get rows i ≡ Some (Some x)) × (is_that_ask k x ≡ true) → slice_get rows i ≡ Some r →
    option_map (λ r. r.reply) (find (is_that_ask k) (there rows)) ≡ option_map (λ r. r.reply) r
reply_at rows i k r d f e = ap (option_map (λ r. r.reply)) (found_at rows i f.0 k d f.1 f.2 ∙ some_is (Some f.0) r (sym f.1 ∙ e))

pub there_pushed : (rows : List (Option Asked)) (y : Asked) → there (rows ++ Some y ∷ []) ≡ there rows ++ y ∷ []
there_pushed [] y = refl
there_pushed (None ∷ rows) y = there_pushed rows y
there_pushed (Some x ∷ rows) y = ap (λ ys. x ∷ ys) (there_pushed rows y)

pub marked_wider : (marks wider : List (List ℕ)) (xs : List Asked) → AreDistinct xs × AreMarked marks xs → ((o : Id) → may_be_marked marks o ≡ true → may_be_marked wider o ≡ true) →
    AreDistinct xs × AreMarked wider xs
marked_wider marks wider xs d f = (d.0, marked_more marks wider xs f d.1)

pub put_right : (marks wider : List (List ℕ)) (k : AskKey) (o : Id) (x : AskReply) (xs after : List Asked) → AreDistinct xs × AreMarked marks xs →
    after ≡ filter (λ r. not (is_that_ask k r)) xs ++ record { key = k; reply = x } ∷ [] → ((o : Id) → may_be_marked marks o ≡ true → may_be_marked wider o ≡ true) →
    o ≡ k.attempt.object → may_be_marked wider o ≡ true → AreDistinct after × AreMarked wider after
put_right marks wider k o x xs after d e f s h =
    subst (λ ys. AreDistinct ys × AreMarked wider ys) (sym e) (
      distinct_put k xs _ refl d.0,
      marked_put wider k xs _ refl (marked_more marks wider xs f d.1) (ap (may_be_marked wider) (sym s) ∙ h),
    )

-- where it never stood, the row is pushed
pub pushed_anew : (k : AskKey) (x : AskReply) (rows after : List (Option Asked)) (y : Option Asked) → list_any (is_that_ask k) (there rows) ≡ false → after ≡ rows ++ y ∷ [] →
    y ≡ Some (record { key = k; reply = x }) → there after ≡ filter (λ r. not (is_that_ask k r)) (there rows) ++ record { key = k; reply = x } ∷ []
pushed_anew k x rows after y n a r =
    ap there (a ∙ ap (λ z. rows ++ z ∷ []) r) ∙ there_pushed rows (record { key = k; reply = x }) ∙ ap (λ ys. ys ++ record { key = k; reply = x } ∷ []) (sym (none_taken (is_that_ask k) (there rows) n))

set_before : {X : Type 0} (xs : List X) (y z : X) (i : ℕ) → i < length xs → slice_set (xs ++ y ∷ []) i z ≡ slice_set xs i z ++ y ∷ []
set_before [] y z i l = absurd (omega (arith, l))
set_before (x ∷ xs) y z zero l = refl
set_before (x ∷ xs) y z (suc i) l = ap (λ zs. x ∷ zs) (set_before xs y z i (omega (arith, l)))

pub is_within_pushed : (rows pushed : List (Option Asked)) (i : ℕ) (k : AskKey) (y : Option Asked) → (x : Asked) × (slice_get rows i ≡ Some (Some x)) × (is_that_ask k x ≡ true) →
    pushed ≡ rows ++ y ∷ [] → i < length pushed
is_within_pushed rows pushed i k y f e = let l = is_within rows i k f in let m = ap length e ∙ length-append rows (y ∷ []) in omega (arith, l, m)

-- where it stood, the row is pushed, and then the one that stood before goes
pub pushed_again : (k : AskKey) (x : AskReply) (rows pushed after : List (Option Asked)) (i : ℕ) (y : Option Asked) → AreDistinct (there rows) →
    (x : Asked) × (slice_get rows i ≡ Some (Some x)) × (is_that_ask k x ≡ true) → pushed ≡ rows ++ y ∷ [] → y ≡ Some (record { key = k; reply = x }) → after ≡ slice_set pushed i None →
    there after ≡ filter (λ r. not (is_that_ask k r)) (there rows) ++ record { key = k; reply = x } ∷ []
pushed_again k x rows pushed after i y d f p r a =
    ap there (a ∙ ap (λ ys. slice_set ys i None) (p ∙ ap (λ z. rows ++ z ∷ []) r) ∙ set_before rows (Some (record { key = k; reply = x })) None i (is_within rows i k f))
    ∙ there_pushed (slice_set rows i None) (record { key = k; reply = x })
    ∙ ap (λ ys. ys ++ record { key = k; reply = x } ∷ []) (sym (taken_at rows i f.0 k d f.1 f.2))

pub put_viewed : (k : AskKey) (x : AskReply) (seen xs after : List Asked) → xs ≡ seen →
    after ≡ filter (λ r. not (is_that_ask k r)) xs ++ record { key = k; reply = x } ∷ [] → after ≡ filter (λ r. not (is_that_ask k r)) seen ++ record { key = k; reply = x } ∷ []
put_viewed k x seen xs after v e = e ∙ ap (λ ys. filter (λ r. not (is_that_ask k r)) ys ++ record { key = k; reply = x } ∷ []) v

-- ---- attempts

unbounded : (all : List Id) (xs : List Attempt) (a : Attempt) → AreBounded all xs → may_be_noted all a.object ≡ false → list_any (λ b. same_attempt b a) xs ≡ false
unbounded all [] a n h = refl
unbounded all (x ∷ xs) a n h = neither (same_attempt x a) (list_any (λ b. same_attempt b a) xs) (other (same_attempt x a) refl) (unbounded all xs a n.1 h)
  where
    other : (b : Bool) → same_attempt x a ≡ b → b ≡ false
    other false e = refl
    other true e = absurd (true_false (sym n.0 ∙ ap (λ y. may_be_noted all y.object) (same_attempt-true x a e) ∙ h))

pub never_begun : (all : List Id) (xs : List Attempt) (a : Attempt) (o : Id) (b : Bool) → AreBounded all xs → o ≡ a.object → b ≡ may_be_noted all o → b ≡ false →
    false ≡ list_any (λ c. same_attempt c a) xs
never_begun all xs a o b n s e h = sym (unbounded all xs a n (ap (may_be_noted all) (sym s) ∙ sym e ∙ h))

pub bounded_more : (all wider : List Id) (xs : List Attempt) → ((o : Id) → may_be_noted all o ≡ true → may_be_noted wider o ≡ true) → AreBounded all xs → AreBounded wider xs
bounded_more all wider [] f n = tt
bounded_more all wider (x ∷ xs) f n = (f x.object n.0, bounded_more all wider xs f n.1)

pub bounded_push : (all : List Id) (xs : List Attempt) (a : Attempt) (o : Id) → AreBounded all xs → o ≡ a.object → may_be_noted all o ≡ true → AreBounded all (xs ++ a ∷ [])
bounded_push all [] a o n s h = (ap (may_be_noted all) (sym s) ∙ h, tt)
bounded_push all (x ∷ xs) a o n s h = (n.0, bounded_push all xs a o n.1 s h)

pub bounded_err : (all wider : List Id) (xs after : List Attempt) → AreBounded all xs → after ≡ xs → ((o : Id) → may_be_noted all o ≡ true → may_be_noted wider o ≡ true) →
    AreBounded wider after
bounded_err all wider xs after n e f = subst (λ ys. AreBounded wider ys) (sym e) (bounded_more all wider xs f n)

pub bounded_after : (all wider : List Id) (xs after : List Attempt) (a : Attempt) (o : Id) → AreBounded all xs → after ≡ xs ++ a ∷ [] →
    ((o : Id) → may_be_noted all o ≡ true → may_be_noted wider o ≡ true) → o ≡ a.object → may_be_noted wider o ≡ true → AreBounded wider after
bounded_after all wider xs after a o n e f s h = subst (λ ys. AreBounded wider ys) (sym e) (bounded_push wider xs a o (bounded_more all wider xs f n) s h)
