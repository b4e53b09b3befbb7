use Rattle.report_laws.proofs.Reports.{lines_begin}
use Rattle.report_laws.proofs.law.lines_begin.Goals as goal

pub returns : goal.returns
returns c = lines_begin
