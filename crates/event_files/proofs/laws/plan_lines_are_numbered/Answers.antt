use Rattle.event_files.specs.Plans.{IsPlanLine, plan_line_in, plan_line_text}
use Rattle.event_files.proofs.LineNumbers.{file_numbers}
use Rattle.event_files.proofs.Readers.{reads_plans}
use Rattle.event_files.proofs.laws.plan_lines_are_numbered.Goals as goal

pub returns : goal.returns
returns c bytes a file = file_numbers IsPlanLine plan_line_text plan_line_in reads_plans bytes a file
