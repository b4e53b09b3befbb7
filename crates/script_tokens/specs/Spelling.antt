-- How tokens are written.
use Rattle.std.specs.Prelude.{◌≡◌, ◌≤◌, ℕ, Bool, true, false, List, [], ◌∷◌, ◌++◌, length, codes, decimal, if◌then◌else◌}
use Rattle.std.specs.List.{AllByRecursion}
use Rattle.script_tokens.specs.declared.token.Mark.{Mark}
use Rattle.script_tokens.specs.declared.token.Mark.TheVariants as marks
use Rattle.script_tokens.specs.Tokens.{Name, Token, number, name, mark}
use Rattle.script_tokens.specs.Bytes.{is_letter, in_word, all}

abbrev pub mark_text : Mark → List ℕ
mark_text marks.Fn = codes "fn"
mark_text marks.Let = codes "let"
mark_text marks.Set = codes "set"
mark_text marks.If = codes "if"
mark_text marks.Else = codes "else"
mark_text marks.For = codes "for"
mark_text marks.In = codes "in"
mark_text marks.Print = codes "print"
mark_text marks.Return = codes "return"
mark_text marks.Int = codes "int"
mark_text marks.Ref = codes "ref"
mark_text marks.Remote = codes "remote"
mark_text marks.Put = codes "put"
mark_text marks.Get = codes "get"
mark_text marks.Len = codes "len"
mark_text marks.Push = codes "push"
mark_text marks.Empty = codes "empty"
mark_text marks.OpenParenthesis = codes "("
mark_text marks.CloseParenthesis = codes ")"
mark_text marks.OpenBrace = codes "{"
mark_text marks.CloseBrace = codes "}"
mark_text marks.OpenBracket = codes "["
mark_text marks.CloseBracket = codes "]"
mark_text marks.Comma = codes ","
mark_text marks.Semicolon = codes ";"
mark_text marks.Colon = codes ":"
mark_text marks.Arrow = codes "->"
mark_text marks.Range = codes ".."
mark_text marks.Assign = codes "="
mark_text marks.Equal = codes "=="
mark_text marks.NotEqual = codes "!="
mark_text marks.Less = codes "<"
mark_text marks.LessEqual = codes "<="
mark_text marks.Plus = codes "+"
mark_text marks.Minus = codes "-"
mark_text marks.Times = codes "*"
mark_text marks.Slash = codes "/"
mark_text marks.Percent = codes "%"

-- the bytes of a token: a number in decimal, without leading zeros
abbrev pub spell : Token → List ℕ
spell (number n) = decimal n
spell (name x) = x
spell (mark m) = mark_text m

-- a small letter, and then small letters, digits and `_`
abbrev pub is_name : Name → Bool
is_name [] = false
is_name (b ∷ bytes) = if is_letter b then all in_word bytes else false

-- at most 64 bytes, and no reserved word
pub record IsName (x : Name) : Type 0 where
  pub shape : is_name x ≡ true
  pub short : length x ≤ 64
  pub free : (m : Mark) → mark_text m ≡ x → ⊥

-- what a token may be
abbrev pub IsToken : Token → Type 0
IsToken (number n) = n ≤ 9223372036854775807
IsToken (name x) = IsName x
IsToken (mark m) = Unit {0}

abbrev pub AllTokens : List Token → Type 0
AllTokens = AllByRecursion IsToken

-- the rest of a line: a space before each token, and a line feed at the end
abbrev pub line_rest : List Token → List ℕ
line_rest [] = 10 ∷ []
line_rest (t ∷ tokens) = 32 ∷ (spell t ++ line_rest tokens)

-- one line: tokens with one space between, and a line feed
abbrev pub line_text : List Token → List ℕ
line_text [] = 10 ∷ []
line_text (t ∷ tokens) = spell t ++ line_rest tokens

-- the lines, one after another
abbrev pub text_of_lines : List (List Token) → List ℕ
text_of_lines [] = []
text_of_lines (line ∷ lines) = line_text line ++ text_of_lines lines

-- the tokens of the lines, in order
abbrev pub tokens_of_lines : List (List Token) → List Token
tokens_of_lines [] = []
tokens_of_lines (line ∷ lines) = line ++ tokens_of_lines lines

-- each token followed by a space
abbrev pub spaced : List Token → List ℕ
spaced [] = []
spaced (t ∷ tokens) = spell t ++ (32 ∷ spaced tokens)

-- the new bytes are the old ones, and possibly more
pub record Continues (old new : List ℕ) : Type 0 where
  pub more : List ℕ
  pub same : new ≡ old ++ more
