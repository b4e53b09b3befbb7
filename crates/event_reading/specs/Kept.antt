-- What is kept of the lines of a file.
use Rattle.std.specs.Prelude.{◌≡◌, ◌<◌, ◌+◌, ℕ, Bool, true, false, if◌then◌else◌, List, [], ◌∷◌, ◌++◌, length}
use Rattle.event_reading.specs.declared.kept.Kept.{Kept}

-- how many of these are events
abbrev pub count : {A : Type 0} → (A → Bool) → List A → ℕ
count is_event [] = 0
count is_event (a ∷ says) = (if is_event a then 1 else 0) + count is_event says

-- the first of all, with their numbers: there are more events than a replay may apply
pub record IsBeginning {A : Type 0} (is_event : A → Bool) (all : List A) (numbers : List ℕ) (says : List A) (kept : List ℕ) (events : ℕ) : Type 0 where
  pub more : List A
  pub more_numbers : List ℕ
  pub said : all ≡ says ++ more
  pub numbered : numbers ≡ kept ++ more_numbers
  pub same_length : length kept ≡ length says
  pub counted : events ≡ count is_event says
  pub enough : 100000 < events

-- all of them
pub record IsAll {A : Type 0} (is_event : A → Bool) (all : List A) (numbers : List ℕ) (says : List A) (kept : List ℕ) (events : ℕ) : Type 0 where
  pub said : all ≡ says
  pub numbered : numbers ≡ kept
  pub same_length : length kept ≡ length says
  pub counted : events ≡ count is_event says

abbrev pub IsKeptSo : {A : Type 0} → (A → Bool) → Bool → List A → List ℕ → List A → List ℕ → ℕ → Type 0
IsKeptSo is_event true all numbers says kept events = IsAll is_event all numbers says kept events
IsKeptSo is_event false all numbers says kept events = IsBeginning is_event all numbers says kept events

-- this is kept of what the lines of these numbers say: all, or the first of it
abbrev pub IsKeptOf : {A : Type 0} → (A → Bool) → List A → List ℕ → Kept A → Type 0
IsKeptOf is_event all numbers k = IsKeptSo is_event k.is_whole all numbers k.says k.numbers k.events
