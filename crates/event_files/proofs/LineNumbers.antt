-- The numbers of a file's lines are those of its rows that say something.
use Rattle.std.proofs.Common.{◌≡◌, ℕ, suc, ◌+◌, Bool, true, false, List, [], ◌∷◌, ◌++◌, length, Option, refl, sym, ap, ◌∙◌}
use Rattle.std.specs.Prelude.{◌==◌, if◌then◌else◌}
use Rattle.event_files.specs.declared.recorded.RecordedEvent.{RecordedEvent}
use Rattle.event_files.specs.Files.{Row, Passed, Said, IsFile, AreRows, all_said, is_passed, rows_text}
use Rattle.event_files.specs.Numbering.{AreNumbersOf, line_numbers, numbers_from, numbers_said}
use Rattle.event_files.specs.Reading.{has}
use Rattle.event_files.specs.Recorded.{IsRecorded, IsRecordedFile, recorded_in, recorded_text}
use Rattle.event_files.proofs.Histories.{reads_recorded}
use Rattle.event_files.proofs.Rows.{Reads}

no_feed : (b : ℕ) (x : List ℕ) → has 10 (b ∷ x) ≡ false → ((b == 10) ≡ false) × (has 10 x ≡ false)
no_feed b x h = by_test (b == 10) h
  where
    by_test : (t : Bool) → (if t then true else has 10 x) ≡ false → (t ≡ false) × (has 10 x ≡ false)
    by_test true h = cc
    by_test false h = (refl, h)

-- the rest of a line
rest_of_line : (n : ℕ) (x more : List ℕ) → has 10 x ≡ false → numbers_from n false (x ++ 10 ∷ more) ≡ numbers_from (n + 1) true more
rest_of_line n [] more h = refl
rest_of_line n (b ∷ x) more h = let k = no_feed b x h in rw k.0 (rest_of_line n x more k.1)

of_line : (n : ℕ) (x more : List ℕ) → has 10 x ≡ false →
    numbers_from n true (x ++ 10 ∷ more) ≡ (if is_passed x then [] else n ∷ []) ++ numbers_from (n + 1) true more
of_line n [] more h = refl
of_line n (b ∷ x) more h = let k = no_feed b x h in rw k.0 (ap (λ z. (if b == 35 then [] else n ∷ []) ++ z) (rest_of_line n x more k.1))

of_rows : {A : Type 0} (is : A → Type 0) (text : A → List ℕ) (read : List ℕ → Option A) → Reads is text read →
    (n : ℕ) (rows : List (Row A)) → AreRows is rows → numbers_from n true (rows_text text rows) ≡ numbers_said n rows
of_rows is text read own n [] h = refl
of_rows is text read own n (Passed x ∷ rows) h =
    of_line n x (rows_text text rows) h.0.1 ∙ rw h.0.0 (of_rows is text read own (n + 1) rows h.1)
of_rows is text read own n (Said a ∷ rows) h =
    of_line n (text a) (rows_text text rows) (own.in_a_line a h.0)
    ∙ rw (own.not_passed a h.0) (ap (λ z. n ∷ z) (of_rows is text read own (n + 1) rows h.1))

one_each : {A : Type 0} (n : ℕ) (rows : List (Row A)) → length (numbers_said n rows) ≡ length (all_said rows)
one_each n [] = refl
one_each n (Passed x ∷ rows) = one_each (n + 1) rows
one_each n (Said a ∷ rows) = ap (λ k. suc k) (one_each (n + 1) rows)

numbers_of : {A : Type 0} (is : A → Type 0) (text : A → List ℕ) (read : List ℕ → Option A) → Reads is text read →
    (n : ℕ) (bytes : List ℕ) (says : List A) → (file : IsFile is text bytes says) → AreNumbersOf n file.rows says (numbers_from n true bytes)
numbers_of is text read own n bytes says file =
    let same = ap (numbers_from n true) file.written ∙ of_rows is text read own n file.rows file.are_rows in
    (same, ap length same ∙ one_each n file.rows ∙ sym (ap length file.said))

pub file_numbers : {A : Type 0} (is : A → Type 0) (text : A → List ℕ) (read : List ℕ → Option A) → Reads is text read →
    (bytes : List ℕ) (says : List A) → (file : IsFile is text bytes says) → AreNumbersOf 1 file.rows says (line_numbers bytes)
file_numbers is text read own bytes says file = numbers_of is text read own 1 bytes says file

-- the first line tells the format
pub recorded_numbers : (bytes : List ℕ) (says : List RecordedEvent) → (file : IsRecordedFile bytes says) →
    (numbers : List ℕ) × (line_numbers bytes ≡ 1 ∷ numbers) × AreNumbersOf 2 file.2.rows says numbers
recorded_numbers bytes says file = (
  numbers_from 2 true file.0,
  ap line_numbers file.1,
  numbers_of IsRecorded recorded_text recorded_in reads_recorded 2 file.0 says file.2,
)
