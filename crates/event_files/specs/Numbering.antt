-- The numbers of the lines of a file that say something.
use Rattle.std.specs.Prelude.{◌≡◌, ℕ, ◌+◌, ◌==◌, Bool, true, if◌then◌else◌, List, [], ◌∷◌, ◌++◌, length}
use Rattle.event_files.specs.Files.{Row, Passed, Said}

-- with that byte begins a line that says something
abbrev pub noted : ℕ → Bool → ℕ → List ℕ
noted number begins b = if begins then (if b == 10 then [] else (if b == 35 then [] else number ∷ [])) else []

abbrev pub number_behind : ℕ → ℕ → ℕ
number_behind number b = if b == 10 then number + 1 else number

-- of the lines from there on; `number` is that of the line in which the bytes begin, and `begins` tells whether they begin with the line
abbrev pub numbers_from : ℕ → Bool → List ℕ → List ℕ
numbers_from number begins [] = []
numbers_from number begins (b ∷ bytes) = noted number begins b ++ numbers_from (number_behind number b) (b == 10) bytes

-- counted from 1, those that are passed over too
abbrev pub line_numbers : List ℕ → List ℕ
line_numbers bytes = numbers_from 1 true bytes

-- ---- of rows

-- the numbers of those that say something; `number` is that of the first row
abbrev pub numbers_said : {A : Type 0} → ℕ → List (Row A) → List ℕ
numbers_said number [] = []
numbers_said number (Passed bytes ∷ rows) = numbers_said (number + 1) rows
numbers_said number (Said a ∷ rows) = number ∷ numbers_said (number + 1) rows

-- of each thing that is said the number of its row, and no others
abbrev pub AreNumbersOf : {A : Type 0} → ℕ → List (Row A) → List A → List ℕ → Type 0
AreNumbersOf number rows says numbers = (numbers ≡ numbers_said number rows) × (length numbers ≡ length says)
