use Rattle.std.proofs.Common.{refl}
use Rattle.script_check.specs.Trees.{script_of}
use Rattle.run_commands.specs.Faults.{AreFaultsBegun}
use Rattle.script_commands.proofs.Refused.{may_be_written}
use Rattle.run_commands.proofs.Simulated.{explains_no_write, explains_stop, unbegun}
use Rattle.run_commands.proofs.Trying.{faults_begun_so, faults_told_so}
use Rattle.run_commands.proofs.faults_command.faults.Goals as goal

-- where the inputs can't be read, that is the reason, and nothing is written
pub returns-in-Err-clause-refused : goal.returns-in-Err-clause-refused
returns-in-Err-clause-refused g c =
    let writes = g.W.Sink.failures c.args.writer.now in
    c.in-Err.ensures.refused c.args.cluster (writes, writes)

pub returns-in-Err-clause-beginning : goal.returns-in-Err-clause-beginning
returns-in-Err-clause-beginning g c =
    let held = g.W.Sink.held c.args.writer.now in
    unbegun (λ t e. AreFaultsBegun c.args.cluster c.args.choice c.args.most t e held held) _ _ held held refl

-- where the run without a fault stops, so, and nothing is written
pub returns-in-Err-try_script-clause-refused : goal.returns-in-Err-try_script-clause-refused
returns-in-Err-try_script-clause-refused g c =
    let inputs = c.in-Ok.inputs in
    explains_stop c.args.cluster _ _ inputs.text.items (script_of inputs.script) inputs.events.says inputs.events.numbers _ _ _
    c.in-Err-try_script.refusal c.in-Ok.ensures.text c.in-Ok.ensures.script c.in-Ok.ensures.events c.in-Err-try_script.ensures.stopped

pub returns-in-Err-try_script-clause-beginning : goal.returns-in-Err-try_script-clause-beginning
returns-in-Err-try_script-clause-beginning g c =
    let held = g.W.Sink.held c.args.writer.now in
    unbegun (λ t e. AreFaultsBegun c.args.cluster c.args.choice c.args.most t e held held) _ _ held held refl

-- else the whole table is written
pub returns-in-Ok-put_all-clause-told : goal.returns-in-Ok-put_all-clause-told
returns-in-Ok-put_all-clause-told g c =
    let inputs = c.in-Ok.inputs in
    faults_told_so c.args.cluster c.args.choice c.args.most _ _ inputs.text.items (script_of inputs.script) inputs.events.says inputs.events.numbers
    c.in-Ok-try_script.told.faults _ _ _ _
    c.in-Ok.ensures.text c.in-Ok.ensures.script c.in-Ok.ensures.events c.in-Ok-try_script.ensures.told c.as_bytes.ensures.value c.in-Ok-put_all.ensures.ok

-- or a write failed, and a beginning of the table is out
pub returns-clause-refused : goal.returns-clause-refused
returns-clause-refused g c =
    explains_no_write c.args.cluster _ (g.E.Source.left c.args.events.now) _ _ _ c.in-Err-put_all.failure c.in-Err-put_all.ensures.failed.0 c.in-Err-put_all.ensures.failed.1

pub returns-clause-unwritten : goal.returns-clause-unwritten
returns-clause-unwritten g c = may_be_written c.in-Err-put_all.failure c.in-Err-put_all.ensures.failed.0

pub returns-clause-beginning : goal.returns-clause-beginning
returns-clause-beginning g c =
    let inputs = c.in-Ok.inputs in
    faults_begun_so c.args.cluster c.args.choice c.args.most _ _ inputs.text.items (script_of inputs.script) inputs.events.says inputs.events.numbers
    c.in-Ok-try_script.told.faults _ _ _ _
    c.in-Ok.ensures.text c.in-Ok.ensures.script c.in-Ok.ensures.events c.in-Ok-try_script.ensures.told c.as_bytes.ensures.value c.in-Err-put_all.ensures.beginning
