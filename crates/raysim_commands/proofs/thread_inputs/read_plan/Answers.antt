use Rattle.std.proofs.Common.{subst}
use Rattle.event_files.specs.Files.{IsBadAt, IsRefusal}
use Rattle.event_files.specs.Plans.{IsPlanLine, plan_line_text}
use Rattle.script_commands.proofs.Reading.{of_read}
use Rattle.raysim_commands.specs.ThreadReports.{IsPlan}
use Rattle.raysim_commands.proofs.Planned.{plan_outside}
use Rattle.raysim_commands.proofs.thread_inputs.read_plan.Goals as goal

pub returns-in-Ok-parse_plan-clause-read : goal.returns-in-Ok-parse_plan-clause-read
returns-in-Ok-parse_plan-clause-read g c =
    of_read (λ b. IsPlan b c.in-Ok-parse_plan.plan.lines) _ c.in-Ok.text.items c.as_slice.result.now c.in-Ok.ensures.ok c.as_slice.ensures.value
    c.as_slice.type_inv.1 c.in-Ok-parse_plan.ensures.read

pub returns-in-Err-BadLine-clause-refused : goal.returns-in-Err-BadLine-clause-refused
returns-in-Err-BadLine-clause-refused g c =
    let shown = c.as_slice.result.now in
    let n = c.in-Err-BadLine.line in
    let bad = subst (λ e. IsRefusal IsPlanLine plan_line_text shown e) c.in-Err-BadLine.field-0-is c.in-Err-BadLine.ensures.refused in
    of_read (λ b. IsBadAt IsPlanLine plan_line_text b n) _ c.in-Ok.text.items shown c.in-Ok.ensures.ok c.as_slice.ensures.value c.as_slice.type_inv.1 bad

pub returns-in-Ok-parse_plan-clause-outside : goal.returns-in-Ok-parse_plan-clause-outside
returns-in-Ok-parse_plan-clause-outside g c = plan_outside _ _ c.in-Ok-parse_plan.ensures.read
