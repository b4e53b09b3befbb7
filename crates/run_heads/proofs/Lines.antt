-- A text's lines one by one, and what the lines in front of a history say.
use Rattle.std.proofs.Common.{◌≡◌, ◌∙◌, ℕ, Bool, true, false, List, [], ◌∷◌, ◌++◌, Some, None, refl, ap}
use Rattle.std.specs.Prelude.{◌==◌, if◌then◌else◌}
use Rattle.event_files.specs.Files.{is_passed}
use Rattle.event_files.specs.Reading.{behind, has, parted}
use Rattle.event_files.proofs.Marks.{none-parted}
use Rattle.event_files.proofs.Rows.{cut}
use Rattle.run_heads.specs.Heads.{before_line, lines_in, said_in}

pub lines_at : (x y : List ℕ) → has 10 x ≡ false → lines_in (x ++ 10 ∷ y) ≡ x ∷ lines_in y
lines_at [] y h = refl
lines_at (b ∷ x) y h = by_test (b == 10) (lines_at x y) h
  where
    by_test : (t : Bool) → (has 10 x ≡ false → lines_in (x ++ 10 ∷ y) ≡ x ∷ lines_in y) → (if t then true else has 10 x) ≡ false →
        (if t then [] ∷ lines_in (x ++ 10 ∷ y) else before_line b (lines_in (x ++ 10 ∷ y))) ≡ (b ∷ x) ∷ lines_in y
    by_test true r f = cc
    by_test false r f = rw (r f) refl

pub no_lines : (x : List ℕ) → has 10 x ≡ false → lines_in x ≡ []
no_lines [] h = refl
no_lines (b ∷ x) h = by_test (b == 10) (no_lines x) h
  where
    by_test : (t : Bool) → (has 10 x ≡ false → lines_in x ≡ []) → (if t then true else has 10 x) ≡ false →
        (if t then [] ∷ lines_in x else before_line b (lines_in x)) ≡ []
    by_test true r f = cc
    by_test false r f = rw (r f) refl

pub lines_parted : (rest line after : List ℕ) → parted 10 rest ≡ Some (line, after) → lines_in rest ≡ line ∷ lines_in after
lines_parted rest line after e = let p = cut 10 rest line after e in ap lines_in p.are ∙ lines_at line after p.none_before

pub lines_unparted : (rest : List ℕ) → parted 10 rest ≡ None → lines_in rest ≡ []
lines_unparted rest e = no_lines rest (none-parted 10 rest e)

-- ---- what is said in them

pub goes_past : (word rest line after : List ℕ) → lines_in rest ≡ line ∷ lines_in after → is_passed line ≡ true → behind word line ≡ None →
    said_in word (lines_in rest) ≡ said_in word (lines_in after)
goes_past word rest line after e p n = ap (said_in word) e ∙ (rw (p, n) refl)

pub is_found : (word rest line after said : List ℕ) → lines_in rest ≡ line ∷ lines_in after → is_passed line ≡ true → behind word line ≡ Some said →
    said_in word (lines_in rest) ≡ Some said
is_found word rest line after said e p n = ap (said_in word) e ∙ (rw (p, n) refl)

pub stops_at : (word rest line after : List ℕ) → lines_in rest ≡ line ∷ lines_in after → is_passed line ≡ false → said_in word (lines_in rest) ≡ None
stops_at word rest line after e p = ap (said_in word) e ∙ (rw p refl)
