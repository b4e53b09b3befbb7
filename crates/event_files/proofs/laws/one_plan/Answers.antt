use Rattle.std.proofs.Common.{sym, ◌∙◌}
use Rattle.event_files.specs.Plans.{IsPlanLine, plan_line_text, plan_line_in}
use Rattle.event_files.proofs.Rows.{one_file}
use Rattle.event_files.proofs.Readers.{reads_plans}
use Rattle.event_files.proofs.laws.one_plan.Goals as goal

pub returns : goal.returns
returns c bytes a b h k = h.said ∙ one_file IsPlanLine plan_line_text plan_line_in reads_plans h.rows k.rows h.are_rows k.are_rows (sym h.written ∙ k.written) ∙ sym k.said
