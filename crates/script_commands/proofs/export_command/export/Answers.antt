use Rattle.std.proofs.Common.{refl}
use Rattle.script_check.specs.Trees.{script_of}
use Rattle.script_commands.proofs.Exporting.{export_begun_so, exported_so, unexported}
use Rattle.script_commands.proofs.Refused.{explains_write, may_be_written}
use Rattle.script_commands.proofs.export_command.export.Goals as goal

pub returns-in-Err-clause-refused : goal.returns-in-Err-clause-refused
returns-in-Err-clause-refused g c = c.in-Err.ensures.refused (g.W.Sink.failures c.args.writer.now, g.W.Sink.failures c.args.writer.now)

pub returns-in-Err-clause-beginning : goal.returns-in-Err-clause-beginning
returns-in-Err-clause-beginning g c = unexported c.args.engine _ _ _ refl

pub returns-in-Ok-put_all-clause-exported : goal.returns-in-Ok-put_all-clause-exported
returns-in-Ok-put_all-clause-exported g c =
    exported_so c.args.engine _ (script_of c.in-Ok.script) _ _ _ _ c.in-Ok.ensures.found c.in-Ok-engine_text.ensures c.as_bytes.ensures.value
    c.in-Ok-put_all.ensures.ok

pub returns-clause-refused : goal.returns-clause-refused
returns-clause-refused g c =
    explains_write (g.R.Source.left c.args.reader.now) _ _ c.in-Err-put_all.failure c.in-Err-put_all.ensures.failed.0 c.in-Err-put_all.ensures.failed.1

pub returns-clause-unwritten : goal.returns-clause-unwritten
returns-clause-unwritten g c = may_be_written c.in-Err-put_all.failure c.in-Err-put_all.ensures.failed.0

pub returns-clause-beginning : goal.returns-clause-beginning
returns-clause-beginning g c =
    export_begun_so c.args.engine _ (script_of c.in-Ok.script) _ _ _ _ c.in-Ok.ensures.found c.in-Ok-engine_text.ensures c.as_bytes.ensures.value
    c.in-Err-put_all.ensures.beginning
