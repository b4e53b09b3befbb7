use Rattle.std.proofs.Common.{refl}
use Rattle.script_check.specs.Trees.{script_of}
use Rattle.script_commands.proofs.Refused.{may_be_written}
use Rattle.run_commands.proofs.Simulated.{unbegun}
use Rattle.raysim_commands.specs.Migrations.{IsMigrationBegun}
use Rattle.raysim_commands.proofs.Migrated.{explains_no_write, explains_stop, migrated_so, migration_begun_so}
use Rattle.raysim_commands.proofs.migrate_command.migrate.Goals as goal

-- where the inputs can't be read, that is the reason, and nothing is written
pub returns-in-Err-clause-refused : goal.returns-in-Err-clause-refused
returns-in-Err-clause-refused g c =
    let writes = g.W.Sink.failures c.args.writer.now in
    c.in-Err.ensures.refused c.args.cluster (writes, writes)

pub returns-in-Err-clause-beginning : goal.returns-in-Err-clause-beginning
returns-in-Err-clause-beginning g c =
    let held = g.W.Sink.held c.args.writer.now in
    unbegun (λ t e. IsMigrationBegun c.args.cluster t e held held) _ _ held held refl

-- where the replay stops, so, and nothing is written
pub returns-in-Err-migrate_script-clause-refused : goal.returns-in-Err-migrate_script-clause-refused
returns-in-Err-migrate_script-clause-refused g c =
    let inputs = c.in-Ok.inputs in
    explains_stop c.args.cluster _ _ (script_of inputs.script) inputs.lines _ _ _ c.in-Err-migrate_script.refusal c.in-Ok.ensures.script
    c.in-Ok.ensures.lines c.in-Err-migrate_script.ensures.stopped

pub returns-in-Err-migrate_script-clause-beginning : goal.returns-in-Err-migrate_script-clause-beginning
returns-in-Err-migrate_script-clause-beginning g c =
    let held = g.W.Sink.held c.args.writer.now in
    unbegun (λ t e. IsMigrationBegun c.args.cluster t e held held) _ _ held held refl

-- else the whole history is written
pub returns-in-Ok-put_all-clause-migrated : goal.returns-in-Ok-put_all-clause-migrated
returns-in-Ok-put_all-clause-migrated g c =
    let inputs = c.in-Ok.inputs in
    migrated_so c.args.cluster _ _ (script_of inputs.script) inputs.lines _ _ _ _ c.in-Ok.ensures.script c.in-Ok.ensures.lines
    c.in-Ok-migrate_script.ensures.written c.as_bytes.ensures.value c.in-Ok-put_all.ensures.ok

-- or a write failed, and a beginning of the history is out
pub returns-clause-refused : goal.returns-clause-refused
returns-clause-refused g c =
    explains_no_write c.args.cluster (g.R.Source.left c.args.reader.now) (g.E.Source.left c.args.events.now) _ _ _ c.in-Err-put_all.failure c.in-Err-put_all.ensures.failed.0 c.in-Err-put_all.ensures.failed.1

pub returns-clause-unwritten : goal.returns-clause-unwritten
returns-clause-unwritten g c = may_be_written c.in-Err-put_all.failure c.in-Err-put_all.ensures.failed.0

pub returns-clause-beginning : goal.returns-clause-beginning
returns-clause-beginning g c =
    let inputs = c.in-Ok.inputs in
    migration_begun_so c.args.cluster _ _ (script_of inputs.script) inputs.lines _ _ _ _ c.in-Ok.ensures.script c.in-Ok.ensures.lines
    c.in-Ok-migrate_script.ensures.written c.as_bytes.ensures.value c.in-Err-put_all.ensures.beginning
