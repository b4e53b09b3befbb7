-- Marks of the workers that may be idle, as one is marked, or is so no more.
use Rattle.std.proofs.Common.{◌≡◌, ℕ, zero, suc, ◌<◌, ◌∷◌, ◌++◌, [], Bool, true, false, List, refl, sym, ap, ◌∙◌, arith, cond, length}
use Rattle.std.proofs.lemmas.Bool.Decides.{nat_tests}
use Rattle.std.specs.Prelude.{nat_lt, not, ◌||◌, ◌==◌, slice_get, slice_set}
use Rattle.std.specs.List.{filter, list_any}
use Rattle.sequence.proofs.Places.{or_right}
use Rattle.protocol_data.specs.Idle.{AreNoted, is_up, may_be_listed}

true_false : true ≡ false → ⊥
true_false e = cc

same : (m n : ℕ) → (m == n) ≡ true → m ≡ n
same m n h = grind (arith, nat_tests, h)

set_there : (marks : List Bool) (i : ℕ) (b : Bool) → i < length marks → is_up (slice_get (slice_set marks i b) i) ≡ b
set_there [] i b h = absurd (omega (arith, h))
set_there (m ∷ marks) zero b h = refl
set_there (m ∷ marks) (suc i) b h = set_there marks i b (omega (arith, h))

set_raises : (marks : List Bool) (i j : ℕ) → is_up (slice_get marks j) ≡ true → is_up (slice_get (slice_set marks i true) j) ≡ true
set_raises [] i j e = e
set_raises (m ∷ marks) zero zero e = refl
set_raises (m ∷ marks) zero (suc j) e = e
set_raises (m ∷ marks) (suc i) zero e = e
set_raises (m ∷ marks) (suc i) (suc j) e = set_raises marks i j e

set_elsewhere : (marks : List Bool) (i j : ℕ) (b : Bool) → (j == i) ≡ false → is_up (slice_get (slice_set marks i b) j) ≡ is_up (slice_get marks j)
set_elsewhere [] i j b h = refl
set_elsewhere (m ∷ marks) zero zero b h = absurd (true_false h)
set_elsewhere (m ∷ marks) zero (suc j) b h = refl
set_elsewhere (m ∷ marks) (suc i) zero b h = refl
set_elsewhere (m ∷ marks) (suc i) (suc j) b h = set_elsewhere marks i j b (grind (arith, nat_tests, h))

pub marked_there : (marks : List Bool) (w : ℕ) → w < length marks → may_be_listed (slice_set marks w true) w ≡ true
marked_there marks w h = or_right (not (nat_lt w 4096)) (is_up (slice_get (slice_set marks w true) w)) (set_there marks w true h)

either : (a b c : Bool) → (b ≡ true → c ≡ true) → (a || b) ≡ true → (a || c) ≡ true
either true b c f h = refl
either false b c f h = f h

pub kept_there : (marks longer : List Bool) (w v : ℕ) → ((i : ℕ) → is_up (slice_get longer i) ≡ is_up (slice_get marks i)) → may_be_listed marks v ≡ true
    → may_be_listed (slice_set longer w true) v ≡ true
kept_there marks longer w v k h =
    either (not (nat_lt v 4096)) (is_up (slice_get marks v)) (is_up (slice_get (slice_set longer w true) v)) (λ e. set_raises longer w v (k v ∙ e)) h

pub others_kept : (marks : List Bool) (w v : ℕ) → (v == w) ≡ false → may_be_listed marks v ≡ true → may_be_listed (slice_set marks w false) v ≡ true
others_kept marks w v n h =
    either (not (nat_lt v 4096)) (is_up (slice_get marks v)) (is_up (slice_get (slice_set marks w false) v)) (λ e. set_elsewhere marks w v false n ∙ e) h

-- ---- the workers

pub noted_more : (marks wider : List Bool) (ws : List ℕ) → ((v : ℕ) → may_be_listed marks v ≡ true → may_be_listed wider v ≡ true) → AreNoted marks ws → AreNoted wider ws
noted_more marks wider [] f n = tt
noted_more marks wider (w ∷ ws) f n = (f w n.0, noted_more marks wider ws f n.1)

pub noted_added : (marks : List Bool) (ws : List ℕ) (w : ℕ) → AreNoted marks ws → may_be_listed marks w ≡ true → AreNoted marks (ws ++ w ∷ [])
noted_added marks [] w n h = (h, tt)
noted_added marks (x ∷ xs) w n h = (n.0, noted_added marks xs w n.1 h)

-- one that isn't marked isn't there
pub none_there : (marks : List Bool) (ws : List ℕ) (w : ℕ) → AreNoted marks ws → may_be_listed marks w ≡ false → list_any (λ v. v == w) ws ≡ false
none_there marks [] w n h = refl
none_there marks (x ∷ xs) w n h = by (x == w) refl (none_there marks xs w n.1 h)
  where
    by : (b : Bool) → (x == w) ≡ b → list_any (λ v. v == w) xs ≡ false → (b || list_any (λ v. v == w) xs) ≡ false
    by true e rest = absurd (true_false (sym n.0 ∙ ap (may_be_listed marks) (same x w e) ∙ h))
    by false e rest = rest

right_false : (a b : Bool) → (a || b) ≡ false → b ≡ false
right_false false b h = h
right_false true b h = absurd (true_false h)

left_false : (a b : Bool) → (a || b) ≡ false → a ≡ false
left_false false b h = refl
left_false true b h = absurd (true_false h)

none_taken : (ws : List ℕ) (w : ℕ) → list_any (λ v. v == w) ws ≡ false → filter (λ v. not (v == w)) ws ≡ ws
none_taken [] w h = refl
none_taken (x ∷ xs) w h =
    ap (λ b. cond (not b) (x ∷ filter (λ v. not (v == w)) xs) (filter (λ v. not (v == w)) xs)) (left_false (x == w) (list_any (λ v. v == w) xs) h)
    ∙ ap (λ ys. x ∷ ys) (none_taken xs w (right_false (x == w) (list_any (λ v. v == w) xs) h))

-- and to take it out changes nothing
pub unmarked_stay : (marks : List Bool) (ws : List ℕ) (w : ℕ) → AreNoted marks ws → may_be_listed marks w ≡ false → filter (λ v. not (v == w)) ws ≡ ws
unmarked_stay marks ws w n h = none_taken ws w (none_there marks ws w n h)

-- where one is taken out, the others stay marked
pub noted_others : (marks fewer : List Bool) (ws : List ℕ) (w : ℕ)
    → ((v : ℕ) → (v == w) ≡ false → may_be_listed marks v ≡ true → may_be_listed fewer v ≡ true) → AreNoted marks ws
    → AreNoted fewer (filter (λ v. not (v == w)) ws)
noted_others marks fewer [] w f n = tt
noted_others marks fewer (x ∷ xs) w f n = by (x == w) refl (noted_others marks fewer xs w f n.1)
  where
    by : (b : Bool) → (x == w) ≡ b → AreNoted fewer (filter (λ v. not (v == w)) xs)
        → AreNoted fewer (cond (not b) (x ∷ filter (λ v. not (v == w)) xs) (filter (λ v. not (v == w)) xs))
    by true e rest = rest
    by false e rest = (f x e n.0, rest)
