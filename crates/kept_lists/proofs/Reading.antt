-- A text that says what was kept of bytes is a text of these bytes.
use Rattle.std.proofs.Common.{◌≡◌, List, ℕ, Option, Some, None, sym, subst}
use Rattle.std.specs.Prelude.{IfSome}
use Rattle.event_files.specs.Files.{IsFile}
use Rattle.event_files.specs.Plans.{IsPlanLine, plan_line_text}
use Rattle.event_files.specs.declared.line.Line.{Line}
use Rattle.event_files.specs.declared.plan.PlanLine.{PlanLine}
use Rattle.event_reading.specs.Files.{AreEventsKept, AreLinesKept}
use Rattle.event_reading.specs.declared.events.KeptEvents.{KeptEvents}
use Rattle.event_reading.specs.declared.kept.Kept.{Kept}
use Rattle.kept_lists.specs.Lists.{IsPlainTextOf, IsPlanTextOf, IsTextOf}
use Rattle.kept_lists.specs.Texts.{SaysKept, SaysLines}

pub events_read : (known : Option (List ℕ)) (k : KeptEvents) (text made : List ℕ) → made ≡ text → IfSome known (λ bytes. AreEventsKept bytes k) →
    ((bytes : List ℕ) → AreEventsKept bytes k → SaysKept k text) → IfSome known (λ bytes. IsTextOf bytes made)
events_read None k text made e are says = tt
events_read (Some bytes) k text made e are says =
    subst (IsTextOf bytes) (sym e) (record { kept = k; are_kept = are; says = says bytes are })

pub lines_read : (known : Option (List ℕ)) (k : Kept Line) (text made : List ℕ) → made ≡ text → IfSome known (λ bytes. AreLinesKept bytes k) →
    ((bytes : List ℕ) → AreLinesKept bytes k → SaysLines k text) → IfSome known (λ bytes. IsPlainTextOf bytes made)
lines_read None k text made e are says = tt
lines_read (Some bytes) k text made e are says =
    subst (IsPlainTextOf bytes) (sym e) (record { kept = k; are_kept = are; says = says bytes are })

pub plan_read : (known : Option (List ℕ)) (lines : List PlanLine) (text made : List ℕ) → made ≡ text →
    IfSome known (λ bytes. IsFile IsPlanLine plan_line_text bytes lines) →
    ((bytes : List ℕ) → IsFile IsPlanLine plan_line_text bytes lines → IsFile IsPlanLine plan_line_text text lines) → IfSome known (λ bytes. IsPlanTextOf bytes made)
plan_read None lines text made e are says = tt
plan_read (Some bytes) lines text made e are says =
    subst (IsPlanTextOf bytes) (sym e) (record { lines = lines; are_lines = are; says = says bytes are })
