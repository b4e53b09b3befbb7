-- A piece of a script, on one line.
use Rattle.std.specs.Prelude.{ℕ, suc, ◌-◌, ◌&&◌, ◌||◌, Bool, if◌then◌else◌, List, [], ◌∷◌, ◌++◌, codes, drop, length, map, min, nat_eq, nat_lt, take}
use Rattle.script_tokens.specs.declared.token.Span.{Span}

-- a byte as it is shown: one that is no letter or sign of ASCII as a question mark, a tab as a space
abbrev pub letter : ℕ → ℕ
letter b = if nat_lt 31 b && nat_lt b 127 then b else if nat_eq b 9 then 32 else 63

-- a line feed, or a return before one
abbrev pub is_line_end : ℕ → Bool
is_line_end b = nat_eq b 10 || nat_eq b 13

-- how many bytes stand before the end of the first line
abbrev pub line_length : List ℕ → ℕ
line_length [] = 0
line_length (b ∷ bytes) = if is_line_end b then 0 else suc (line_length bytes)

-- how many bytes are shown: 60 at most
unfoldable pub shown_length : List ℕ → ℕ
shown_length bytes = min (line_length bytes) 60

-- what stands behind those that are shown, where there are others
abbrev pub rest_sign : Bool → List ℕ
rest_sign more = if more then codes " .." else []

-- the piece as it is shown
abbrev pub excerpt : List ℕ → List ℕ
excerpt bytes = map letter (take (shown_length bytes) bytes) ++ rest_sign (nat_lt (shown_length bytes) (length bytes))

-- the bytes of a span
abbrev pub bytes_of : List ℕ → Span → List ℕ
bytes_of script s = take (s.end - s.start) (drop s.start script)
