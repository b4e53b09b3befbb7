use Rattle.report_laws.proofs.Reports.{reports_begin}
use Rattle.report_laws.proofs.law.reports_begin_as_serial.Goals as goal

pub returns : goal.returns
returns c = reports_begin
