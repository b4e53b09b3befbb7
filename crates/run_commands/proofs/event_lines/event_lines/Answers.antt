use Rattle.std.proofs.Common.{rules, subst}
use Rattle.event_files.specs.Recorded.{IsFileRefusal}
use Rattle.run_commands.proofs.event_lines.event_lines.Goals as goal

pub returns-in-Err-BadLine-clause-refused : goal.returns-in-Err-BadLine-clause-refused
returns-in-Err-BadLine-clause-refused c =
    let why = subst (λ e. IsFileRefusal c.args.text.now e) c.in-Err-BadLine.field-0-is c.in-Err-BadLine.ensures.refused in
    search (rules, why)
