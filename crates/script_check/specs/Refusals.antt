-- The numbers and the places of refusals.
use Rattle.std.specs.Prelude.{ℕ, Bool, true, false, Option, Some, None}
use Rattle.script_tokens.specs.declared.token.Span.{Span}
use Rattle.script_check.specs.declared.error.CheckError.{CheckError}
use Rattle.script_check.specs.declared.error.CheckError.TheVariants.{
  UnknownName,
  WrongType,
  WrongCount,
  NoMain,
  PrintOutsideMain,
  MissingReturn,
  BadRetries,
  Duplicate,
  WrongReturns,
  NoMemory,
}

abbrev pub number_of : CheckError → ℕ
number_of (UnknownName s) = 10
number_of (WrongType s) = 11
number_of (WrongCount s) = 12
number_of NoMain = 13
number_of (PrintOutsideMain s) = 14
number_of (MissingReturn s) = 15
number_of (BadRetries s) = 16
number_of (Duplicate s) = 17
number_of (WrongReturns s) = 18
number_of NoMemory = 39

abbrev pub span_of : CheckError → Option Span
span_of (UnknownName s) = Some s
span_of (WrongType s) = Some s
span_of (WrongCount s) = Some s
span_of NoMain = Some (record { start = 0; end = 0 })
span_of (PrintOutsideMain s) = Some s
span_of (MissingReturn s) = Some s
span_of (BadRetries s) = Some s
span_of (Duplicate s) = Some s
span_of (WrongReturns s) = Some s
span_of NoMemory = None

-- all but want of memory
abbrev pub is_refusal : CheckError → Bool
is_refusal NoMemory = false
is_refusal _ = true
