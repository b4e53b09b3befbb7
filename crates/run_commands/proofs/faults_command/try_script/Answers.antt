use Rattle.std.proofs.Common.{◌≡◌, ◌∙◌, ap, string_bytes}
use Rattle.std.proofs.lemmas.Result.{IfErr-weaker, IfOk-weaker}
use Rattle.script_check.specs.Trees.{script_of}
use Rattle.fault_runs.specs.of_protocol_board.Cores.{RunState}
use Rattle.raysim_streams.specs.declared.CommandRefusal.TheVariants.{NoMemory}
use Rattle.run_commands.specs.Faults.{AreFaultsIn, AreFaultsOf}
use Rattle.run_commands.specs.SimReports.{IsStopOf}
use Rattle.run_commands.proofs.Simulated.{without_memory}
use Rattle.run_commands.proofs.Trying.{faults_so}
use Rattle.run_commands.proofs.faults_command.try_script.Goals as goal

pub returns-clause-told : goal.returns-clause-told
returns-clause-told g c =
    let script = script_of c.args.script.now in
    let says = c.args.events.now.says in
    let log = c.log-log.result.now in
    let logged = c.log-log.ensures.log ∙ ap (λ (r : RunState). r.log) c.board.ensures in
    IfOk-weaker c.try_faults-told.result (λ t. AreFaultsIn script c.args.cluster c.args.choice c.args.most log t.faults (string_bytes t.table))
    (λ t. AreFaultsOf script c.args.cluster c.args.choice c.args.most says t.faults (string_bytes t.table))
    (λ t told. faults_so script c.args.cluster c.args.choice c.args.most says c.in-Ok.replay log t.faults (string_bytes t.table) c.in-Ok.ensures.replayed
    logged told) c.try_faults-told.ensures.told

pub returns-clause-stopped : goal.returns-clause-stopped
returns-clause-stopped g c =
    let script = script_of c.args.script.now in
    let says = c.args.events.now.says in
    let numbers = c.args.events.now.numbers in
    IfErr-weaker c.try_faults-told.result (λ r. r ≡ NoMemory) (IsStopOf script c.args.cluster says numbers)
    (without_memory script c.args.cluster says numbers) c.try_faults-told.ensures.only
