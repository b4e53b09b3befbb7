use Rattle.script_check.specs.Trees.{script_of}
use Rattle.raysim_commands.proofs.Explained.{explains_stop}
use Rattle.raysim_commands.proofs.Threaded.{threads_begun_so, threads_written_so}
use Rattle.raysim_commands.proofs.threads_command.run_threaded.Goals as goal

pub returns-in-Ok-write_outputs-clause-reported : goal.returns-in-Ok-write_outputs-clause-reported
returns-in-Ok-write_outputs-clause-reported g c =
    threads_written_so c.args.cluster c.args.threads c.args.form _ _ (script_of c.in-Ok.inputs.script) _ _ _ _ _ _ _ _
    c.in-Ok.ensures.script c.in-Ok.ensures.plan c.in-Ok-run_script.ensures.run c.in-Ok-write_outputs.ensures.history
    c.in-Ok-write_outputs.ensures.report

pub returns-clause-beginning : goal.returns-clause-beginning
returns-clause-beginning g c =
    threads_begun_so c.args.cluster c.args.threads c.args.form _ _ (script_of c.in-Ok.inputs.script) _ _ _ _ _ _ _ _
    c.in-Ok.ensures.script c.in-Ok.ensures.plan c.in-Ok-run_script.ensures.run c.in-Err-write_outputs.ensures.beginning

pub returns-in-Err-run_script-clause-refused : goal.returns-in-Err-run_script-clause-refused
returns-in-Err-run_script-clause-refused g c =
    explains_stop c.args.cluster c.args.threads _ _ _ _ _ _ (script_of c.in-Ok.inputs.script) c.in-Ok.inputs.plan.lines c.in-Err-run_script.refusal
    c.in-Ok.ensures.script c.in-Ok.ensures.plan c.in-Err-run_script.ensures.stopped
