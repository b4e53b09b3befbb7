-- The exchange that counts further entries keeps the rule.
use Rattle.std.proofs.Common.{◌≡◌, ℕ, ◌<◌, ◌==◌, Bool, true, false, List, [], ◌∷◌, ◌++◌, length, refl, ap, sym, ◌∙◌, subst, arith, inl, None, append-nil}
use Rattle.std.proofs.lemmas.Bool.Decides.{nat_tests}
use mathlib.Core.List.{IsPrefix}
use prog.Atomic.{either}
use Rattle.logbook.specs.Pages.{Cell, cell, keeps, no_nib, step, Moves, Goes}
use Rattle.log_entries.specs.declared.entry.Entry.{Entry}
use Rattle.shared_log.specs.Rules.{Becomes, IsCounted}
use Rattle.shared_log.proofs.Prefixes.{prefix_whole}

pub shown : List Entry → List Entry
shown log = []

grows : (log v goal : List Entry) (e : Entry) (old new : ℕ) → length v ≡ old → new ≡ length goal → IsPrefix v goal → IsPrefix v log → (b : Bool) → (length log == old) ≡ b →
    Goes IsCounted (λ log. []) (λ xs ys (n : ℕ). Unit {0}) 0 (v, (no_nib, None)) (λ n. either (n == old) new n) (Becomes goal (step 0 old new e) (v, (no_nib, None)))
    ((length log, true) ∷ (0, true) ∷ []) log
grows log v goal e old new len counted on pre true is =
    let here : length log ≡ old = grind (arith, nat_tests) in
    let same : v ≡ log = prefix_whole v log pre (omega (arith, here, len)) in
    let whole : log ++ on.0 ≡ goal = ap (λ w. w ++ on.0) (sym same) ∙ on.1 in
    let n : either (length log == old) new (length log) ≡ length (log ++ on.0) = rw is (counted ∙ sym (ap length whole)) in
    (keeps, on.0, None, tt, ap (λ (k : ℕ). (k, true) ∷ (0, true) ∷ []) n, inl (refl, refl), rw is whole)
grows log v goal e old new len counted on pre false is =
    let all : log ++ [] ≡ log = append-nil log in
    let n : either (length log == old) new (length log) ≡ length (log ++ []) = rw is (ap length (sym all)) in
    (keeps, [], None, tt, ap (λ (k : ℕ). (k, true) ∷ (0, true) ∷ []) n, inl (refl, refl), rw is (ap length all))

-- whatever the book is, the exchange has the log become this one, or finds that it is longer than was seen
pub grows_moves : (v goal : List Entry) (e : Entry) (old new : ℕ) → length v ≡ old → new ≡ length goal → IsPrefix v goal →
    Moves IsCounted (λ log. []) (λ xs ys (n : ℕ). Unit {0}) 0 (v, (no_nib, None)) (λ n. either (n == old) new n) (Becomes goal (step 0 old new e) (v, (no_nib, None)))
grows_moves v goal e old new len counted on cs log kept pre away =
    let P : List Cell → Type 0 = λ c. (0 < length c) × ((cell c 0).1 ≡ true)
    × Goes IsCounted (λ log. []) (λ xs ys (n : ℕ). Unit {0}) 0 (v, (no_nib, None)) (λ n. either (n == old) new n) (Becomes goal (step 0 old new e) (v, (no_nib, None))) c log in
    subst P (sym kept) (omega arith, refl, grows log v goal e old new len counted on pre (length log == old) refl)
