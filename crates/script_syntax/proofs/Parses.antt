-- What the parser answers, from what is read.
use Rattle.std.proofs.Common.{◌≡◌, ℕ, List, Option, Some, None, Result, Ok, Err, refl, sym, subst, ◌∙◌, inl, inr}
use Rattle.std.specs.Prelude.{IfOk, IfErr, MatchResult}
use Rattle.script_tokens.specs.declared.error.SyntaxError.{SyntaxError}
use Rattle.script_tokens.specs.declared.error.SyntaxError.TheVariants as errors
use Rattle.script_tokens.specs.Tokens.{Token}
use Rattle.script_tokens.specs.Texts.{AreTokens}
use Rattle.script_tokens.specs.Refusals.{IsRefusal}
use Rattle.script_syntax.specs.declared.refusal.Refusal.{Refusal}
use Rattle.script_syntax.specs.declared.refusal.Refusal.TheVariants as refusals
use Rattle.script_syntax.specs.declared.tree.Program.{Program as CodeProgram}
use Rattle.script_syntax.specs.Trees.{Program}
use Rattle.script_syntax.specs.Views.{program_of}
use Rattle.script_syntax.specs.Grammar.{IsProgram, NoProgram, Reads}
use Rattle.script_syntax.specs.Reading.{Fails, program}
use Rattle.script_syntax.specs.Refusals.{IsRefusalOfTokens, IsRefusalOfText, error_of}
use Rattle.script_syntax.proofs.Found.{some_is}
use Rattle.script_syntax.proofs.Programs.{program_read}

pub same_tree : (tokens : List Token) (a b : Program) → IsProgram tokens a → IsProgram tokens b → a ≡ b
same_tree tokens a b p q = some_is a b (sym (program_read tokens a p) ∙ program_read tokens b q)

pub same_program : ((text : List ℕ) (a b : List Token) → AreTokens text a → AreTokens text b → a ≡ b) → (text : List ℕ) (a b : Program) → Reads text a → Reads text b → a ≡ b
same_program same text a b p q = same_tree q.0 a b (subst (λ (ts : List Token). IsProgram ts a) (same text p.0 q.0 p.1 q.1) p.2) q.2

pub read_only : (tokens : List Token) (p : Program) → program tokens ≡ Some p → (q : Program) → IsProgram tokens q → p ≡ q
read_only tokens p e q h = some_is p q (sym e ∙ program_read tokens q h)

none_is : (tokens : List Token) → program tokens ≡ None → NoProgram tokens
none_is tokens e p h = (let both : (let s : Option Program = None in s) ≡ Some p = sym e ∙ program_read tokens p h in absurd cc)

pub refused_only : (tokens : List Token) (r : Refusal) → Fails r (program tokens) → (q : Program) → IsProgram tokens q → error_of r ≡ errors.NoMemory
refused_only tokens refusals.NoMemory h q p = refl
refused_only tokens (refusals.Expected s) h q p = absurd (none_is tokens h q p)
refused_only tokens (refusals.TooLarge s) h q p = absurd (none_is tokens h q p)

pub refused_for : (tokens : List Token) (r : Refusal) → Fails r (program tokens) → IsRefusalOfTokens tokens (error_of r)
refused_for tokens refusals.NoMemory h = tt
refused_for tokens (refusals.Expected s) h = none_is tokens h
refused_for tokens (refusals.TooLarge s) h = none_is tokens h

-- ---- a text, by its tokens

pub text_found : (text : List ℕ) (tokens : List Token) (r : Result CodeProgram SyntaxError) → AreTokens text tokens → IfOk r (λ p. IsProgram tokens (program_of p.functions.items)) → IfOk r (λ p. Reads text (program_of p.functions.items))
text_found text tokens (Ok p) h k = (tokens, h, k)
text_found text tokens (Err e) h k = tt

pub text_only : (text : List ℕ) (tokens : List Token) (r : Result CodeProgram SyntaxError) → ((others : List Token) → AreTokens text others → tokens ≡ others)
    → ((q : Program) → IsProgram tokens q → MatchResult r (λ p. program_of p.functions.items ≡ q) (λ e. e ≡ errors.NoMemory)) → (q : Program) → Reads text q → MatchResult r (λ p. program_of p.functions.items ≡ q) (λ e. e ≡ errors.NoMemory)
text_only text tokens r same only q h = only q (subst (λ (ts : List Token). IsProgram ts q) (sym (same h.0 h.1)) h.2)

pub text_refused : (text : List ℕ) (tokens : List Token) (r : Result CodeProgram SyntaxError) → AreTokens text tokens → IfErr r (λ e. IsRefusalOfTokens tokens e) → IfErr r (λ e. IsRefusalOfText text e)
text_refused text tokens (Ok p) h k = tt
text_refused text tokens (Err (errors.NotAscii s)) h k = absurd k
text_refused text tokens (Err (errors.BadToken s)) h k = absurd k
text_refused text tokens (Err (errors.Expected s)) h k = (tokens, h, k)
text_refused text tokens (Err (errors.TooLarge s)) h k = inr (tokens, h, k)
text_refused text tokens (Err errors.NoMemory) h k = tt

pub tokens_refused : (text : List ℕ) (e : SyntaxError) → IsRefusal text e → IsRefusalOfText text e
tokens_refused text (errors.NotAscii s) h = h
tokens_refused text (errors.BadToken s) h = h
tokens_refused text (errors.Expected s) h = absurd h
tokens_refused text (errors.TooLarge s) h = inl h
tokens_refused text errors.NoMemory h = tt
