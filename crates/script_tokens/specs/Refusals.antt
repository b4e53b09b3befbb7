-- Why a text has no tokens, and where.
use Rattle.std.specs.Prelude.{◌≡◌, ◌≤◌, ◌<◌, ◌+◌, ℕ, List, [], ◌++◌, length, max, Option, Some, None}
use Rattle.script_tokens.specs.declared.token.Span.{Span}
use Rattle.script_tokens.specs.declared.error.SyntaxError.{SyntaxError}
use Rattle.script_tokens.specs.declared.error.SyntaxError.TheVariants as errors
use Rattle.script_tokens.specs.Tokens.{Token}
use Rattle.script_tokens.specs.Bytes.{in_run, is_ascii, front}
use Rattle.script_tokens.specs.Texts.{Piece, text_of, Stands, IsTextBefore}

-- No piece stands at the beginning of what is left.
abbrev pub NothingStands : List ℕ → Type 0
NothingStands rest = (p : Piece) (after : List ℕ) → rest ≡ text_of p ++ after → Stands p after → ⊥

-- All before the first byte above 127 are pieces; the span is that byte.
pub record IsNotAsciiAt (text : List ℕ) (span : Span) : Type 0 where
  pub short : length text ≤ 65536
  pub pieces : List Piece
  pub tokens : List Token
  pub read : IsTextBefore [] pieces tokens (front is_ascii text)
  pub inside : span.start < length text
  pub start : span.start ≡ length (front is_ascii text)
  pub end : span.end ≡ span.start + 1

-- What stands before the span are pieces, and none stands in the span: a run of letters, digits and `_`, or one other byte.
pub record IsBadTokenAt (text : List ℕ) (span : Span) : Type 0 where
  pub rest : List ℕ
  pub pieces : List Piece
  pub tokens : List Token
  pub read : IsTextBefore rest pieces tokens text
  pub some : 0 < length rest
  pub stuck : NothingStands rest
  pub start : span.start + length rest ≡ length text
  pub end : span.end ≡ span.start + max 1 (length (front in_run rest))

-- The causes of a refusal. A bad token stands before each byte above 127.
abbrev pub IsRefusal : List ℕ → SyntaxError → Type 0
IsRefusal text (errors.NotAscii span) = IsNotAsciiAt text span
IsRefusal text (errors.BadToken span) = (length text ≤ 65536) × IsBadTokenAt (front is_ascii text) span
IsRefusal text (errors.Expected span) = ⊥
IsRefusal text (errors.TooLarge span) = (65536 < length text) × (span.start ≡ 0) × (span.end ≡ 0)
IsRefusal text errors.NoMemory = Unit {0}

abbrev pub refusal_number : SyntaxError → ℕ
refusal_number (errors.NotAscii span) = 1
refusal_number (errors.BadToken span) = 2
refusal_number (errors.Expected span) = 3
refusal_number (errors.TooLarge span) = 4
refusal_number errors.NoMemory = 39

abbrev pub refusal_span : SyntaxError → Option Span
refusal_span (errors.NotAscii span) = Some span
refusal_span (errors.BadToken span) = Some span
refusal_span (errors.Expected span) = Some span
refusal_span (errors.TooLarge span) = Some span
refusal_span errors.NoMemory = None
