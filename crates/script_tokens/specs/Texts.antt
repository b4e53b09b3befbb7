-- A text as pieces, each the longest that could stand there, and the tokens that they are.
use Rattle.std.specs.Prelude.{◌≡◌, ◌≤◌, ℕ, Bool, true, false, List, [], ◌∷◌, ◌++◌, length, ◌==◌, if◌then◌else◌}
use Rattle.script_tokens.specs.declared.token.Mark.{Mark}
use Rattle.script_tokens.specs.declared.token.Mark.TheVariants as marks
use Rattle.script_tokens.specs.Tokens.{Token, number, name, mark}
use Rattle.script_tokens.specs.Bytes.{is_blank, is_letter, in_word, in_run, in_line, is_ascii, all, ends}
use Rattle.script_tokens.specs.Spelling.{mark_text, spell, IsToken}

pub data Piece : Type 0 where
  blank : (b : ℕ) → Piece
  comment : (line : List ℕ) → Piece
  token : (t : Token) → Piece

-- `#` begins a comment
abbrev pub text_of : Piece → List ℕ
text_of (blank b) = b ∷ []
text_of (comment line) = 35 ∷ line
text_of (token t) = spell t

abbrev pub tokens_in : Piece → List Token
tokens_in (token t) = t ∷ []
tokens_in _ = []

-- The byte can't follow the mark: a longer word or symbol would stand there.
abbrev pub lengthens_mark : Mark → ℕ → Bool
lengthens_mark marks.Assign b = b == 61
lengthens_mark marks.Less b = b == 61
lengthens_mark marks.Minus b = b == 62
lengthens_mark m b = if all is_letter (mark_text m) then in_word b else false

-- The byte can't follow the token. No letter at all may follow a number.
abbrev pub lengthens : Token → ℕ → Bool
lengthens (number n) b = in_run b
lengthens (name x) b = in_word b
lengthens (mark m) b = lengthens_mark m b

-- The piece stands before the rest, and none that is longer does.
abbrev pub Stands : Piece → List ℕ → Type 0
Stands (blank b) rest = is_blank b ≡ true
Stands (comment line) rest = (all in_line line ≡ true) × (ends in_line rest ≡ true)
Stands (token t) rest = IsToken t × (ends (lengthens t) rest ≡ true)

-- The text is the pieces, each standing before what follows it, and then the rest; the pieces' tokens are these.
abbrev pub IsTextBefore : List ℕ → List Piece → List Token → List ℕ → Type 0
IsTextBefore rest [] tokens text = (text ≡ rest) × (tokens ≡ [])
IsTextBefore rest (p ∷ pieces) tokens text = (after : List ℕ) × (others : List Token) × (text ≡ text_of p ++ after) × Stands p after
    × (tokens ≡ tokens_in p ++ others) × IsTextBefore rest pieces others after

-- The text, of at most 65,536 bytes, each below 128, is these tokens.
pub record AreTokens (text : List ℕ) (tokens : List Token) : Type 0 where
  pub short : length text ≤ 65536
  pub ascii : all is_ascii text ≡ true
  pub pieces : List Piece
  pub read : IsTextBefore [] pieces tokens text
