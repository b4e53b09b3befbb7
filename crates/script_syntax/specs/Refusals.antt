-- When tokens, and when a text, are refused as no program, and with which number.
use Rattle.std.specs.Prelude.{ℕ, List, ◌⊎◌}
use Rattle.script_tokens.specs.declared.error.SyntaxError.{SyntaxError}
use Rattle.script_tokens.specs.declared.error.SyntaxError.TheVariants as errors
use Rattle.script_tokens.specs.Tokens.{Token}
use Rattle.script_tokens.specs.Texts.{AreTokens}
use Rattle.script_tokens.specs.Refusals.{IsRefusal}
use Rattle.script_syntax.specs.declared.refusal.Refusal.{Refusal}
use Rattle.script_syntax.specs.declared.refusal.Refusal.TheVariants as refusals
use Rattle.script_syntax.specs.Grammar.{NoProgram}

-- The tokens are refused for a cause.
abbrev pub IsRefusalOfTokens : List Token → SyntaxError → Type 0
IsRefusalOfTokens tokens (errors.NotAscii span) = ⊥
IsRefusalOfTokens tokens (errors.BadToken span) = ⊥
IsRefusalOfTokens tokens (errors.Expected span) = NoProgram tokens
IsRefusalOfTokens tokens (errors.TooLarge span) = NoProgram tokens
IsRefusalOfTokens tokens errors.NoMemory = Unit {0}

-- The text has tokens that are no program.
abbrev pub HasNoProgram : List ℕ → Type 0
HasNoProgram text = (tokens : List Token) × AreTokens text tokens × NoProgram tokens

-- The text is refused for a cause: it has no tokens, or it is too long, or its tokens are no program.
abbrev pub IsRefusalOfText : List ℕ → SyntaxError → Type 0
IsRefusalOfText text (errors.NotAscii span) = IsRefusal text (errors.NotAscii span)
IsRefusalOfText text (errors.BadToken span) = IsRefusal text (errors.BadToken span)
IsRefusalOfText text (errors.Expected span) = HasNoProgram text
IsRefusalOfText text (errors.TooLarge span) = IsRefusal text (errors.TooLarge span) ⊎ HasNoProgram text
IsRefusalOfText text errors.NoMemory = Unit {0}

abbrev pub error_of : Refusal → SyntaxError
error_of (refusals.Expected span) = errors.Expected span
error_of (refusals.TooLarge span) = errors.TooLarge span
error_of refusals.NoMemory = errors.NoMemory
