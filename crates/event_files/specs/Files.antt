-- Event files and plans: lines that each end with a line feed.
use Rattle.std.specs.Prelude.{◌≡◌, ◌≢◌, ◌+◌, ℕ, ◌==◌, Bool, true, false, List, [], ◌∷◌, ◌++◌, length}
use Rattle.event_files.specs.declared.error.EventError.{EventError}
use Rattle.event_files.specs.declared.error.EventError.TheVariants as errors
use Rattle.event_files.specs.Reading.{has}

-- a line: one that is passed over, or one that says something
pub data Row (A : Type 0) : Type 0 where
  Passed : (bytes : List ℕ) → Row A
  Said : (said : A) → Row A

-- what is passed over is empty, or begins with `#`
abbrev pub is_passed : List ℕ → Bool
is_passed [] = true
is_passed (b ∷ bytes) = b == 35

-- `is` tells what a line may say
abbrev pub IsRow : {A : Type 0} → (A → Type 0) → Row A → Type 0
IsRow is (Passed bytes) = (is_passed bytes ≡ true) × (has 10 bytes ≡ false)
IsRow is (Said a) = is a

abbrev pub AreRows : {A : Type 0} → (A → Type 0) → List (Row A) → Type 0
AreRows is [] = Unit {0}
AreRows is (r ∷ rows) = IsRow is r × AreRows is rows

-- `text` tells how a line is written, without its line feed
abbrev pub row_text : {A : Type 0} → (A → List ℕ) → Row A → List ℕ
row_text text (Passed bytes) = bytes
row_text text (Said a) = text a

abbrev pub rows_text : {A : Type 0} → (A → List ℕ) → List (Row A) → List ℕ
rows_text text [] = []
rows_text text (r ∷ rows) = row_text text r ++ (10 ∷ rows_text text rows)

-- what the lines say
abbrev pub all_said : {A : Type 0} → List (Row A) → List A
all_said [] = []
all_said (Passed bytes ∷ rows) = all_said rows
all_said (Said a ∷ rows) = a ∷ all_said rows

-- the bytes are lines that say these things
pub record IsFile {A : Type 0} (is : A → Type 0) (text : A → List ℕ) (bytes : List ℕ) (says : List A) : Type 0 where
  pub rows : List (Row A)
  pub are_rows : AreRows is rows
  pub written : bytes ≡ rows_text text rows
  pub said : says ≡ all_said rows

-- the line, with that behind it, is none of the format: it has no line feed, or is written as no line is
abbrev pub IsNoRow : {A : Type 0} → (A → Type 0) → (A → List ℕ) → List ℕ → List ℕ → Type 0
IsNoRow {A} is text line [] = line ≢ []
IsNoRow {A} is text line (b ∷ rest) = (b ≡ 10) × ((r : Row A) → IsRow is r → row_text text r ≢ line)

-- the line with number n, counted from 1, is the first that is none of the format
pub record IsBadAt {A : Type 0} (is : A → Type 0) (text : A → List ℕ) (bytes : List ℕ) (n : ℕ) : Type 0 where
  pub rows : List (Row A)
  pub line : List ℕ
  pub rest : List ℕ
  pub are_rows : AreRows is rows
  pub written : bytes ≡ rows_text text rows ++ (line ++ rest)
  pub place : n ≡ length rows + 1
  pub in_a_line : has 10 line ≡ false
  pub is_bad : IsNoRow is text line rest

-- why the bytes are refused
abbrev pub IsRefusal : {A : Type 0} → (A → Type 0) → (A → List ℕ) → List ℕ → EventError → Type 0
IsRefusal is text bytes (errors.BadLine n) = IsBadAt is text bytes n
IsRefusal is text bytes errors.NoMemory = Unit {0}
