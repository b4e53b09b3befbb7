-- Where what was read is known, what `export` wrote is that script's program, or a beginning of it where a write failed.
use Rattle.std.proofs.Common.{◌≡◌, ◌∙◌, ◌⊎◌, ℕ, List, Option, None, Some, inl, inr, subst, take}
use Rattle.std.specs.Prelude.{IfSome}
use Rattle.std.specs.Io.KnownBytes.{Appends}
use Rattle.meaning.specs.Syntax.{Script}
use Rattle.engine_text.specs.declared.program.Engine.{Engine}
use Rattle.engine_text.specs.Program.{engine_text}
use Rattle.script_commands.specs.Exports.{IsBegunExport, IsExported}
use Rattle.script_commands.specs.Scripts.{IsScript}

-- what was written is the program of what was read, where that is known
pub exported_so : (engine : Engine) (known : Option (List ℕ)) (script : Script) (program bytes : List ℕ) (before after : Option (List ℕ)) →
    IfSome known (λ t. IsScript t script) → program ≡ engine_text engine script → bytes ≡ program → Appends before after bytes →
    IfSome known (λ t. IsExported engine t before after)
exported_so engine None script program bytes before after is made put a = tt
exported_so engine (Some t) script program bytes before after is made put a = (script, is, subst (λ l. Appends before after l) (put ∙ made) a)

-- and where a beginning was written, it is one of that program
pub export_begun_so : (engine : Engine) (known : Option (List ℕ)) (script : Script) (program bytes : List ℕ) (before after : Option (List ℕ)) →
    IfSome known (λ t. IsScript t script) → program ≡ engine_text engine script → bytes ≡ program →
    (k : ℕ) × Appends before after (take k bytes) → IfSome known (λ t. IsBegunExport engine t before after)
export_begun_so engine None script program bytes before after is made put a = tt
export_begun_so engine (Some t) script program bytes before after is made put (k, a) =
    inr (script, k, is, subst (λ l. Appends before after (take k l)) (put ∙ made) a)

-- nothing was written
pub unexported : (engine : Engine) (known : Option (List ℕ)) (before after : Option (List ℕ)) → after ≡ before →
    IfSome known (λ t. IsBegunExport engine t before after)
unexported engine None before after same = tt
unexported engine (Some t) before after same = inl same
