use Rattle.std.proofs.Common.{refl}
use Rattle.script_check.specs.Trees.{script_of}
use Rattle.script_commands.proofs.Refused.{explains_write, may_be_written}
use Rattle.run_commands.proofs.Running.{explains_as_others, explains_run_stop, run_begun_so, run_reported_so, run_unbegun}
use Rattle.run_commands.proofs.run_command.run.Goals as goal

-- where the script can't be read or isn't allowed, that is the reason, and nothing is written
pub returns-in-Err-clause-refused : goal.returns-in-Err-clause-refused
returns-in-Err-clause-refused g c =
    let writes = g.W.Sink.failures c.args.writer.now in
    explains_as_others c.args.cluster _ _ _ c.in-Err.refusal (c.in-Err.ensures.refused (writes, writes))

pub returns-in-Err-clause-beginning : goal.returns-in-Err-clause-beginning
returns-in-Err-clause-beginning g c = run_unbegun c.args.cluster c.args.form _ _ _ refl

-- where the run stops before its end, so, and nothing is written
pub returns-in-Err-run_script-clause-refused : goal.returns-in-Err-run_script-clause-refused
returns-in-Err-run_script-clause-refused g c =
    explains_run_stop c.args.cluster _ _ _ (script_of c.in-Ok.script) c.in-Err-run_script.refusal c.in-Ok.ensures.found c.in-Err-run_script.ensures.stopped

pub returns-in-Err-run_script-clause-beginning : goal.returns-in-Err-run_script-clause-beginning
returns-in-Err-run_script-clause-beginning g c = run_unbegun c.args.cluster c.args.form _ _ _ refl

-- else the whole report is written
pub returns-in-Ok-put_all-clause-reported : goal.returns-in-Ok-put_all-clause-reported
returns-in-Ok-put_all-clause-reported g c =
    run_reported_so c.args.cluster c.args.form _ (script_of c.in-Ok.script) _ _ c.in-Ok-run_script.report.status _ _ c.in-Ok.ensures.found
    c.in-Ok-run_script.ensures.reported c.as_bytes.ensures.value c.in-Ok-put_all.ensures.ok

-- or a write failed, and a beginning of the report is out
pub returns-clause-refused : goal.returns-clause-refused
returns-clause-refused g c =
    explains_write (g.R.Source.left c.args.reader.now) _ _ c.in-Err-put_all.failure c.in-Err-put_all.ensures.failed.0 c.in-Err-put_all.ensures.failed.1

pub returns-clause-unwritten : goal.returns-clause-unwritten
returns-clause-unwritten g c = may_be_written c.in-Err-put_all.failure c.in-Err-put_all.ensures.failed.0

pub returns-clause-beginning : goal.returns-clause-beginning
returns-clause-beginning g c =
    run_begun_so c.args.cluster c.args.form _ (script_of c.in-Ok.script) _ _ c.in-Ok-run_script.report.status _ _ c.in-Ok.ensures.found
    c.in-Ok-run_script.ensures.reported c.as_bytes.ensures.value c.in-Err-put_all.ensures.beginning
