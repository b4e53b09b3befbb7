-- Refusals have their causes.
use Rattle.std.proofs.Common.{◌≡◌, ℕ, List, Option, None, Some, inl, inr, refl, sym, subst}
use Rattle.std.specs.Prelude.{IfSome}
use Rattle.meaning.specs.Syntax.{Script}
use Rattle.script_tokens.specs.declared.error.SyntaxError.{SyntaxError}
use Rattle.script_tokens.specs.declared.error.SyntaxError.TheVariants as syntax
use Rattle.script_tokens.specs.declared.token.Span.{Span}
use Rattle.script_syntax.specs.Trees.{Program}
use Rattle.script_syntax.specs.Grammar.{Reads}
use Rattle.script_syntax.specs.Refusals.{IsRefusalOfText}
use Rattle.script_syntax.specs.Views.{program_of}
use Rattle.script_check.specs.Rules.{IsCheckedOf}
use Rattle.script_check.specs.declared.error.CheckError.{CheckError}
use Rattle.script_check.specs.declared.error.CheckError.TheVariants as faults
use Rattle.raysim_streams.specs.Settled.{IsOfWriting}
use Rattle.raysim_streams.specs.declared.Failure.{Failure}
use Rattle.raysim_streams.specs.declared.Failure.TheVariants.{Read, Write, Closed}
use Rattle.raysim_streams.specs.declared.CommandRefusal.{CommandRefusal}
use Rattle.raysim_streams.specs.declared.CommandRefusal.TheVariants.{At, NoMemory, Stopped, BadLine, WrongJob, Failed}
use Rattle.script_commands.specs.Scripts.{Counts, FailedIn, IsAllowed, IsNoScript, IsPlaced, IsRefusalOf, IsNoScriptFor, IsUnwritten, syntax_refusal, check_refusal, Explains, ExplainsText}

-- the parser's error
pub refused_by_parser : (text : List ℕ) (e : SyntaxError) (r : CommandRefusal) → IsRefusalOfText text e → ((program : Program) → Reads text program → e ≡ syntax.NoMemory) → r ≡ syntax_refusal e → IsRefusalOf text r
refused_by_parser text e r cause only same = inl (e, record { cause = cause; only = only }, same)

-- the checker's error, of the one program that the text reads as
pub refused_by_checker : (text : List ℕ) (program : Program) (e : CheckError) (r : CommandRefusal) → Reads text program → ((q : Program) → Reads text q → program ≡ q) → ((script : Script) → IsCheckedOf program script → e ≡ faults.NoMemory) → r ≡ check_refusal e → IsRefusalOf text r
refused_by_checker text program e r reads same h told =
    inr (e, record { program = program; reads = reads; only = λ script s. h script (subst (λ q. IsCheckedOf q script) (sym (same s.0 s.1)) s.2) }, told)

-- no memory
pub refused_memory : (text : List ℕ) → IsRefusalOf text NoMemory
refused_memory text = inl (syntax.NoMemory, record { cause = tt; only = λ program r. refl }, refl)

-- what a refusal with a place tells is no want of memory
abbrev pub HasPlace : CommandRefusal → Type 0
HasPlace (At code span) = Unit {0}
HasPlace NoMemory = ⊥
HasPlace (Stopped code) = ⊥
HasPlace (BadLine line) = ⊥
HasPlace (WrongJob line) = ⊥
HasPlace (Failed failure) = ⊥

placed_syntax : (e : SyntaxError) → HasPlace (syntax_refusal e) → e ≡ syntax.NoMemory → ⊥
placed_syntax e p same = subst (λ x. HasPlace (syntax_refusal x)) same p

placed_check : (e : CheckError) → HasPlace (check_refusal e) → e ≡ faults.NoMemory → ⊥
placed_check e p same = subst (λ x. HasPlace (check_refusal x)) same p

-- a text that is refused at a place is no script
pub no_script : (text : List ℕ) (code : ℕ) (span : Span) → IsRefusalOf text (At code span) → IsNoScript text
no_script text code span (inl (e, h, same)) = λ script s. placed_syntax e (subst HasPlace same tt) (h.only s.0 s.1)
no_script text code span (inr (e, h, same)) = λ script s. placed_check e (subst HasPlace same tt) (h.only script s)

-- what is told of a text
abbrev pub IsOfText : CommandRefusal → Type 0
IsOfText (At code span) = Unit {0}
IsOfText NoMemory = Unit {0}
IsOfText (Stopped code) = ⊥
IsOfText (BadLine line) = ⊥
IsOfText (WrongJob line) = ⊥
IsOfText (Failed failure) = ⊥

of_text_syntax : (e : SyntaxError) → IsOfText (syntax_refusal e)
of_text_syntax (syntax.NotAscii span) = tt
of_text_syntax (syntax.BadToken span) = tt
of_text_syntax (syntax.Expected span) = tt
of_text_syntax (syntax.TooLarge span) = tt
of_text_syntax syntax.NoMemory = tt

of_text_check : (e : CheckError) → IsOfText (check_refusal e)
of_text_check (faults.UnknownName span) = tt
of_text_check (faults.WrongType span) = tt
of_text_check (faults.WrongCount span) = tt
of_text_check faults.NoMain = tt
of_text_check (faults.PrintOutsideMain span) = tt
of_text_check (faults.MissingReturn span) = tt
of_text_check (faults.BadRetries span) = tt
of_text_check (faults.Duplicate span) = tt
of_text_check (faults.WrongReturns span) = tt
of_text_check faults.NoMemory = tt

-- a text is refused by what is told of texts
of_text : (text : List ℕ) (r : CommandRefusal) → IsRefusalOf text r → IsOfText r
of_text text r (inl (e, h, same)) = subst IsOfText (sym same) (of_text_syntax e)
of_text text r (inr (e, h, same)) = subst IsOfText (sym same) (of_text_check e)

-- what was read, where it is known, explains the refusal
pub explains_read : (known : Option (List ℕ)) (text : List ℕ) (reads writes : Counts) (r : CommandRefusal) → IfSome known (λ bytes. text ≡ bytes) → IsRefusalOf text r → Explains known reads writes r
explains_read None text a b (At code span) h k = tt
explains_read (Some bytes) text a b (At code span) h k = subst (λ t. IsNoScriptFor t (At code span)) h (record { none = no_script text code span k; told = k })
explains_read known text a b NoMemory h k = tt
explains_read known text a b (Stopped code) h k = absurd (of_text text (Stopped code) k)
explains_read known text a b (BadLine line) h k = absurd (of_text text (BadLine line) k)
explains_read known text a b (WrongJob line) h k = absurd (of_text text (WrongJob line) k)
explains_read known text a b (Failed failure) h k = absurd (of_text text (Failed failure) k)

-- so does the text itself
pub explains_text : (text : List ℕ) (r : CommandRefusal) → IsRefusalOf text r → ExplainsText text r
explains_text text (At code span) k = record { none = no_script text code span k; told = k }
explains_text text NoMemory k = tt
explains_text text (Stopped code) k = absurd (of_text text (Stopped code) k)
explains_text text (BadLine line) k = absurd (of_text text (BadLine line) k)
explains_text text (WrongJob line) k = absurd (of_text text (WrongJob line) k)
explains_text text (Failed failure) k = absurd (of_text text (Failed failure) k)

-- a text whose script has its places is a script
pub placed_allowed : (text : List ℕ) (script : Script) (places : List Span) → IsPlaced text script places → IsAllowed text
placed_allowed text script places is = (script, (program_of is.functions, is.reads, is.checked))

-- ---- a write that failed

pub explains_write : (known : Option (List ℕ)) (reads writes : Counts) (f : Failure) → IsOfWriting f → FailedIn writes → Explains known reads writes (Failed f)
explains_write known a b Read kind h = absurd kind
explains_write known a b Write kind h = h
explains_write known a b Closed kind h = h

-- it may have left something written
pub may_be_written : {X : Type 0} (f : Failure) → IsOfWriting f → IsUnwritten (Failed f) → X
may_be_written Read kind h = absurd kind
may_be_written Write kind h = absurd h
may_be_written Closed kind h = absurd h
