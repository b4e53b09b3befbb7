-- What a command says of a script's text.
use Rattle.std.specs.Prelude.{◌≡◌, ◌⊎◌, ℕ, List, length, Option, IfSome, Result, Ok, Err}
use Rattle.std.specs.Io.KnownBytes.{Consumes}
use Rattle.meaning.specs.Syntax.{Script}
use Rattle.script_tokens.specs.declared.error.SyntaxError.{SyntaxError}
use Rattle.script_tokens.specs.declared.error.SyntaxError.TheVariants as syntax
use Rattle.script_tokens.specs.declared.token.Span.{Span}
use Rattle.script_syntax.specs.declared.tree.Function.{Function}
use Rattle.script_syntax.specs.Trees.{Program}
use Rattle.script_syntax.specs.Grammar.{Reads}
use Rattle.script_syntax.specs.Refusals.{IsRefusalOfText}
use Rattle.script_syntax.specs.Views.{program_of}
use Rattle.script_check.specs.Rules.{IsCheckedOf}
use Rattle.script_check.specs.declared.error.CheckError.{CheckError}
use Rattle.script_check.specs.declared.error.CheckError.TheVariants as faults
use Rattle.code_places.specs.Places.{program_places}
pub use Rattle.raysim_streams.specs.Settled.{Counts, FailedIn}
use Rattle.raysim_streams.specs.declared.Failure.{Failure}
use Rattle.raysim_streams.specs.declared.Failure.TheVariants.{Read, Write, Closed}
use Rattle.raysim_streams.specs.declared.CommandRefusal.{CommandRefusal}
use Rattle.raysim_streams.specs.declared.CommandRefusal.TheVariants.{At, NoMemory, Stopped, BadLine, WrongJob, Failed}

-- the text reads as a program that the rules allow, and that becomes the script
abbrev pub IsScript : List ℕ → Script → Type 0
IsScript text script = (program : Program) × Reads text program × IsCheckedOf program script

-- the same, where the script's instructions are made of these places of the program
pub record IsPlaced (text : List ℕ) (script : Script) (places : List Span) : Type 0 where
  pub functions : List Function
  pub reads : Reads text (program_of functions)
  pub checked : IsCheckedOf (program_of functions) script
  pub placed : places ≡ program_places functions

-- the text is no script that the rules allow
abbrev pub IsNoScript : List ℕ → Type 0
IsNoScript text = (script : Script) → IsScript text script → ⊥

abbrev pub syntax_refusal : SyntaxError → CommandRefusal
syntax_refusal (syntax.NotAscii span) = At 1 span
syntax_refusal (syntax.BadToken span) = At 2 span
syntax_refusal (syntax.Expected span) = At 3 span
syntax_refusal (syntax.TooLarge span) = At 4 span
syntax_refusal syntax.NoMemory = NoMemory

abbrev pub check_refusal : CheckError → CommandRefusal
check_refusal (faults.UnknownName span) = At 10 span
check_refusal (faults.WrongType span) = At 11 span
check_refusal (faults.WrongCount span) = At 12 span
check_refusal faults.NoMain = At 13 (record { start = 0; end = 0 })
check_refusal (faults.PrintOutsideMain span) = At 14 span
check_refusal (faults.MissingReturn span) = At 15 span
check_refusal (faults.BadRetries span) = At 16 span
check_refusal (faults.Duplicate span) = At 17 span
check_refusal (faults.WrongReturns span) = At 18 span
check_refusal faults.NoMemory = NoMemory

-- the parser's error at the text: it has its cause there, and a text that reads as a program is refused for want of memory alone
pub record IsParserError (text : List ℕ) (e : SyntaxError) : Type 0 where
  pub cause : IsRefusalOfText text e
  pub only : (program : Program) → Reads text program → e ≡ syntax.NoMemory

-- the checker's error at the text: it reads as a program, and a text that is a script is refused for want of memory alone
pub record IsCheckerError (text : List ℕ) (e : CheckError) : Type 0 where
  pub program : Program
  pub reads : Reads text program
  pub only : (script : Script) → IsScript text script → e ≡ faults.NoMemory

-- the refusal tells the parser's error at the text, or the checker's
abbrev pub IsRefusalOf : List ℕ → CommandRefusal → Type 0
IsRefusalOf text r =
    ((e : SyntaxError) × IsParserError text e × (r ≡ syntax_refusal e))
    ⊎ ((e : CheckError) × IsCheckerError text e × (r ≡ check_refusal e))

-- the text is a script that the rules allow
abbrev pub IsAllowed : List ℕ → Type 0
IsAllowed text = (script : Script) × IsScript text script

-- the text is no script that the rules allow, and the refusal tells the error that says so
pub record IsNoScriptFor (text : List ℕ) (r : CommandRefusal) : Type 0 where
  pub none : IsNoScript text
  pub told : IsRefusalOf text r

-- why nothing is told of what the text is a script of: it is none, and the refusal tells the error that says so; or there was no memory
abbrev pub ExplainsText : List ℕ → CommandRefusal → Type 0
ExplainsText text (At code span) = IsNoScriptFor text (At code span)
ExplainsText text NoMemory = Unit {0}
ExplainsText text (Stopped code) = ⊥
ExplainsText text (BadLine line) = ⊥
ExplainsText text (WrongJob line) = ⊥
ExplainsText text (Failed failure) = ⊥

-- the stream that a failure names failed within the call
abbrev pub HasFailed : Counts → Counts → Failure → Type 0
HasFailed reads writes Read = FailedIn reads
HasFailed reads writes Write = FailedIn writes
HasFailed reads writes Closed = FailedIn writes

-- why a command refuses: what was read, where it is known, is no script; or a read or a write failed within the call
abbrev pub Explains : Option (List ℕ) → Counts → Counts → CommandRefusal → Type 0
Explains text reads writes (At code span) = IfSome text (λ bytes. IsNoScriptFor bytes (At code span))
Explains text reads writes NoMemory = Unit {0}
Explains text reads writes (Stopped code) = ⊥
Explains text reads writes (BadLine line) = ⊥
Explains text reads writes (WrongJob line) = ⊥
Explains text reads writes (Failed failure) = HasFailed reads writes failure

-- a refusal before anything was written
abbrev pub IsUnwritten : CommandRefusal → Type 0
IsUnwritten (At code span) = Unit {0}
IsUnwritten NoMemory = Unit {0}
IsUnwritten (Stopped code) = Unit {0}
IsUnwritten (BadLine line) = Unit {0}
IsUnwritten (WrongJob line) = Unit {0}
IsUnwritten (Failed Read) = Unit {0}
IsUnwritten (Failed Write) = ⊥
IsUnwritten (Failed Closed) = ⊥

-- a text that is refused for its length has one byte more than a script may have taken from the reader, and no other
abbrev pub IsTakenSoFar : Option (List ℕ) → Option (List ℕ) → CommandRefusal → Type 0
IsTakenSoFar old new (At code span) = (taken : List ℕ) × Consumes old new taken × (length taken ≡ 65537)
IsTakenSoFar old new NoMemory = Unit {0}
IsTakenSoFar old new (Stopped code) = Unit {0}
IsTakenSoFar old new (BadLine line) = Unit {0}
IsTakenSoFar old new (WrongJob line) = Unit {0}
IsTakenSoFar old new (Failed failure) = Unit {0}

-- the status of a command: its own, and 1 where it is refused
abbrev pub exit_status : Result ℕ CommandRefusal → ℕ
exit_status (Ok status) = status
exit_status (Err refusal) = 1
