-- The lines of a plan that was read are events from outside.
use Rattle.std.proofs.Common.{◌≡◌, ℕ, zero, suc, true, List, [], ◌∷◌, Option, Some, None, sym, subst}
use Rattle.event_files.specs.declared.plan.PlanLine.{PlanLine}
use Rattle.event_files.specs.Files.{AreRows, IsFile, Passed, Row, Said, all_said}
use Rattle.event_files.specs.Plans.{IsPlanLine, is_outside, plan_line_text}
use Rattle.replay_laws.specs.of_seats.Held.{AreOutside}

some_same : {A : Type 0} (x y : A) → ◌≡◌ {A = Option A} (Some x) (Some y) → x ≡ y
some_same x y e = cc

none_some : {A : Type 0} (x : A) → ◌≡◌ {A = Option A} None (Some x) → ⊥
none_some x e = cc

rows_outside : (rows : List (Row PlanLine)) → AreRows IsPlanLine rows → AreOutside (all_said rows)
rows_outside [] h k line at = absurd (none_some line at)
rows_outside (Passed bytes ∷ rows) h k line at = rows_outside rows h.1 k line at
rows_outside (Said p ∷ rows) h zero line at =
    subst (λ (l : PlanLine). is_outside l.event ≡ true) (some_same p line at) h.0.2
rows_outside (Said p ∷ rows) h (suc k) line at = rows_outside rows h.1 k line at

pub plan_outside : (bytes : List ℕ) (lines : List PlanLine) → IsFile IsPlanLine plan_line_text bytes lines → AreOutside lines
plan_outside bytes lines h = subst AreOutside (sym h.said) (rows_outside h.rows h.are_rows)
