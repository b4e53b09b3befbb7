use Rattle.std.proofs.Common.{refl}
use Rattle.script_check.specs.Trees.{script_of}
use Rattle.script_commands.proofs.Refused.{explains_write, may_be_written}
use Rattle.script_commands.proofs.Serially.{begun_so, reported_so, unbegun}
use Rattle.script_commands.proofs.serial_command.serial.Goals as goal

pub returns-in-Err-clause-refused : goal.returns-in-Err-clause-refused
returns-in-Err-clause-refused g c = c.in-Err.ensures.refused (g.W.Sink.failures c.args.writer.now, g.W.Sink.failures c.args.writer.now)

pub returns-in-Err-clause-beginning : goal.returns-in-Err-clause-beginning
returns-in-Err-clause-beginning g c = unbegun _ _ _ refl

pub returns-in-Err-serial_report-clause-beginning : goal.returns-in-Err-serial_report-clause-beginning
returns-in-Err-serial_report-clause-beginning g c = unbegun _ _ _ refl

pub returns-in-Ok-put_all-clause-reported : goal.returns-in-Ok-put_all-clause-reported
returns-in-Ok-put_all-clause-reported g c =
    reported_so _ (script_of c.in-Ok.script) _ _ c.in-Ok-serial_report.report.status _ _ c.in-Ok.ensures.found
    c.in-Ok-serial_report.ensures.text c.in-Ok-serial_report.ensures.status c.as_bytes.ensures.value c.in-Ok-put_all.ensures.ok

pub returns-clause-refused : goal.returns-clause-refused
returns-clause-refused g c =
    explains_write (g.R.Source.left c.args.reader.now) _ _ c.in-Err-put_all.failure c.in-Err-put_all.ensures.failed.0 c.in-Err-put_all.ensures.failed.1

pub returns-clause-unwritten : goal.returns-clause-unwritten
returns-clause-unwritten g c = may_be_written c.in-Err-put_all.failure c.in-Err-put_all.ensures.failed.0

pub returns-clause-beginning : goal.returns-clause-beginning
returns-clause-beginning g c =
    begun_so _ (script_of c.in-Ok.script) _ _ _ _ c.in-Ok.ensures.found c.in-Ok-serial_report.ensures.text c.as_bytes.ensures.value
    c.in-Err-put_all.ensures.beginning
