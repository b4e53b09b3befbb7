-- The bytes of a text, by kind.
use Rattle.std.specs.Prelude.{ℕ, Bool, true, false, List, [], ◌∷◌, ◌==◌, nat_lt, if◌then◌else◌}

-- space, tab, carriage return, line feed
abbrev pub is_blank : ℕ → Bool
is_blank b = if b == 32 then true else if b == 9 then true else if b == 13 then true else b == 10

abbrev pub is_digit : ℕ → Bool
is_digit b = if nat_lt b 48 then false else nat_lt b 58

-- a to z
abbrev pub is_letter : ℕ → Bool
is_letter b = if nat_lt b 97 then false else nat_lt b 123

-- A to Z
abbrev pub is_capital : ℕ → Bool
is_capital b = if nat_lt b 65 then false else nat_lt b 91

-- what a name goes on with: a small letter, a digit, `_`
abbrev pub in_word : ℕ → Bool
in_word b = if is_letter b then true else if is_digit b then true else b == 95

-- any letter, a digit, `_`
abbrev pub in_run : ℕ → Bool
in_run b = if in_word b then true else is_capital b

-- all but a line feed
abbrev pub in_line : ℕ → Bool
in_line b = if b == 10 then false else true

abbrev pub is_ascii : ℕ → Bool
is_ascii b = nat_lt b 128

-- each byte is one of these
abbrev pub all : (ℕ → Bool) → List ℕ → Bool
all test [] = true
all test (b ∷ bytes) = if test b then all test bytes else false

-- none of these comes first
abbrev pub ends : (ℕ → Bool) → List ℕ → Bool
ends test [] = true
ends test (b ∷ bytes) = if test b then false else true

-- the longest front of these
abbrev pub front : (ℕ → Bool) → List ℕ → List ℕ
front test [] = []
front test (b ∷ bytes) = if test b then b ∷ front test bytes else []

-- what follows that front
abbrev pub past : (ℕ → Bool) → List ℕ → List ℕ
past test [] = []
past test (b ∷ bytes) = if test b then past test bytes else b ∷ bytes
