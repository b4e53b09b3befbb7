-- Functions on lists of bytes that read tokens.
use Rattle.std.specs.Prelude.{
  ◌+◌,
  ◌*◌,
  ◌-◌,
  ℕ,
  Bool,
  true,
  false,
  List,
  [],
  ◌∷◌,
  length,
  Option,
  Some,
  None,
  ◌==◌,
  nat_lt,
  if◌then◌else◌,
}
use Rattle.std.specs.Str.{bytes_eq}
use Rattle.script_tokens.specs.declared.token.Mark.{Mark}
use Rattle.script_tokens.specs.declared.token.Mark.TheVariants as marks
use Rattle.script_tokens.specs.declared.token.Token.{Token as CodeToken}
use Rattle.script_tokens.specs.declared.token.Placed.{Placed}
use Rattle.script_tokens.specs.declared.token.Span.{Span}
use Rattle.script_tokens.specs.declared.error.SyntaxError.{SyntaxError}
use Rattle.script_tokens.specs.declared.error.SyntaxError.TheVariants as errors
use Rattle.script_tokens.specs.Tokens.{Token, number, name, mark}
use Rattle.script_tokens.specs.Views.{token_of}
use Rattle.script_tokens.specs.Bytes.{is_blank, is_digit, is_letter, in_word, in_run, in_line, all, front, past}
use Rattle.script_tokens.specs.Spelling.{mark_text}
use Rattle.script_tokens.specs.Refusals.{IsBadTokenAt}

infixl 10 ◌>>=◌
abbrev pub ◌>>=◌ : {A B : Type 0} → Option A → (A → Option B) → Option B
(Some x) >>= f = f x
None >>= f = None

abbrev pub choose : {A B : Type 0} → Option A → B → (A → B) → B
choose None y f = y
choose (Some x) y f = f x

abbrev pub listed : Option CodeToken → List Token
listed None = []
listed (Some t) = token_of t ∷ []

-- ---- numbers

abbrev pub is_empty : List ℕ → Bool
is_empty [] = true
is_empty (b ∷ bytes) = false

-- 0, or a digit from 1 on and further digits
abbrev pub is_numeral : List ℕ → Bool
is_numeral [] = false
is_numeral (d ∷ digits) = if d == 48 then is_empty digits else all is_digit (d ∷ digits)

-- what the digits say, after those that said n
abbrev pub value_from : ℕ → List ℕ → ℕ
value_from n [] = n
value_from n (d ∷ digits) = value_from (10 * n + (d - 48)) digits

-- the number of a run of letters, digits and `_`
unfoldable pub number_of : List ℕ → Option ℕ
number_of run = if is_numeral run then (if nat_lt 9223372036854775807 (value_from 0 run) then None else Some (value_from 0 run)) else None

-- ---- words

abbrev pub word_in : List Mark → List ℕ → Option Mark
word_in [] word = None
word_in (m ∷ ms) word = if bytes_eq (mark_text m) word then Some m else word_in ms word

abbrev pub reserved_words : List Mark
reserved_words = marks.Fn ∷ marks.Let ∷ marks.Set ∷ marks.If ∷ marks.Else ∷ marks.For ∷ marks.In ∷ marks.Print ∷ marks.Return ∷ marks.Int
    ∷ marks.Ref
    ∷ marks.Remote ∷ marks.Put ∷ marks.Get ∷ marks.Len ∷ marks.Push ∷ marks.Empty ∷ []

-- the token of a word that begins with a letter
unfoldable pub word_token : List ℕ → Option Token
word_token word = choose (word_in reserved_words word) (if nat_lt 64 (length word) then None else Some (name word)) (λ m. Some (mark m))

-- ---- symbols

-- the symbols of one byte
abbrev pub singles : List (ℕ × Mark)
singles = (40, marks.OpenParenthesis) ∷ (41, marks.CloseParenthesis) ∷ (123, marks.OpenBrace) ∷ (125, marks.CloseBrace) ∷ (91, marks.OpenBracket)
    ∷ (93, marks.CloseBracket) ∷ (44, marks.Comma) ∷ (59, marks.Semicolon) ∷ (58, marks.Colon) ∷ (61, marks.Assign) ∷ (60, marks.Less)
    ∷ (43, marks.Plus)
    ∷ (45, marks.Minus) ∷ (42, marks.Times) ∷ (47, marks.Slash) ∷ (37, marks.Percent) ∷ []

abbrev pub single_in : List (ℕ × Mark) → ℕ → Option Mark
single_in [] b = None
single_in (s ∷ ss) b = if b == s.0 then Some s.1 else single_in ss b

-- the symbols of two bytes
abbrev pub pairs : List (ℕ × ℕ × Mark)
pairs = (45, 62, marks.Arrow) ∷ (46, 46, marks.Range) ∷ (61, 61, marks.Equal) ∷ (33, 61, marks.NotEqual) ∷ (60, 61, marks.LessEqual) ∷ []

abbrev pub pair_in : List (ℕ × ℕ × Mark) → ℕ → ℕ → Option Mark
pair_in [] a b = None
pair_in (p ∷ ps) a b = if a == p.0 then (if b == p.1 then Some p.2 else pair_in ps a b) else pair_in ps a b

abbrev pub pair_at : ℕ → List ℕ → Option (Mark × List ℕ)
pair_at a [] = None
pair_at a (b ∷ rest) = pair_in pairs a b >>= λ m. Some (m, rest)

unfoldable pub symbol_at : List ℕ → Option (Mark × List ℕ)
symbol_at [] = None
symbol_at (b ∷ rest) = choose (pair_at b rest) (single_in singles b >>= λ m. Some (m, rest)) (λ x. Some x)

-- ---- pieces

-- the next piece's tokens, and what follows it
unfoldable pub next : List ℕ → Option (List Token × List ℕ)
next [] = None
next (b ∷ bytes) =
    if is_blank b then Some ([], bytes)
    else if b == 35 then Some ([], past in_line bytes)
    else if is_letter b then (word_token (front in_word (b ∷ bytes)) >>= λ t. Some (t ∷ [], past in_word (b ∷ bytes)))
    else if is_digit b then (number_of (front in_run (b ∷ bytes)) >>= λ n. Some (number n ∷ [], past in_run (b ∷ bytes)))
    else symbol_at (b ∷ bytes) >>= λ x. Some (mark x.0 ∷ [], x.1)

-- what one more token adds
abbrev pub placed : Option CodeToken → Span → List Placed
placed None span = []
placed (Some t) span = record { token = t; span = span } ∷ []

-- why reading ended
abbrev pub IsStop : List ℕ → SyntaxError → Type 0
IsStop text (errors.BadToken span) = IsBadTokenAt text span
IsStop text errors.NoMemory = Unit {0}
IsStop text (errors.NotAscii span) = ⊥
IsStop text (errors.Expected span) = ⊥
IsStop text (errors.TooLarge span) = ⊥
