-- Where what was read is known, what `serial` wrote is that script's report, or a beginning of it where a write failed.
use Rattle.std.proofs.Common.{◌≡◌, ◌∙◌, ◌⊎◌, ℕ, List, Option, None, Some, inl, inr, subst, take}
use Rattle.std.specs.Prelude.{IfSome}
use Rattle.std.specs.Io.KnownBytes.{Appends}
use Rattle.meaning.specs.Syntax.{Script}
use Rattle.report_laws.specs.Serial.{serial_report, serial_status}
use Rattle.script_commands.specs.Scripts.{IsScript}
use Rattle.script_commands.specs.SerialReports.{IsBegun, IsReported}

-- what was written is the report of what was read, where that is known
pub reported_so : (known : Option (List ℕ)) (script : Script) (report bytes : List ℕ) (status : ℕ) (before after : Option (List ℕ)) →
    IfSome known (λ t. IsScript t script) → report ≡ serial_report script → status ≡ serial_status script → bytes ≡ report →
    Appends before after bytes → IfSome known (λ t. IsReported t status before after)
reported_so None script report bytes status before after is made ends put a = tt
reported_so (Some t) script report bytes status before after is made ends put a =
    (script, is, ends, subst (λ l. Appends before after l) (put ∙ made) a)

-- and where a beginning was written, it is one of that report
pub begun_so : (known : Option (List ℕ)) (script : Script) (report bytes : List ℕ) (before after : Option (List ℕ)) →
    IfSome known (λ t. IsScript t script) → report ≡ serial_report script → bytes ≡ report →
    (k : ℕ) × Appends before after (take k bytes) → IfSome known (λ t. IsBegun t before after)
begun_so None script report bytes before after is made put a = tt
begun_so (Some t) script report bytes before after is made put (k, a) =
    inr (script, k, is, subst (λ l. Appends before after (take k l)) (put ∙ made) a)

-- nothing was written
pub unbegun : (known : Option (List ℕ)) (before after : Option (List ℕ)) → after ≡ before → IfSome known (λ t. IsBegun t before after)
unbegun None before after same = tt
unbegun (Some t) before after same = inl same
