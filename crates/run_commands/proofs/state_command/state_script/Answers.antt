use Rattle.std.proofs.Common.{◌≡◌, ◌∙◌, ap, string_bytes}
use Rattle.std.proofs.lemmas.Result.{IfErr-weaker, IfOk-weaker}
use Rattle.script_check.specs.Trees.{script_of}
use Rattle.fault_runs.specs.of_protocol_board.Cores.{RunState}
use Rattle.raysim_streams.specs.declared.CommandRefusal.TheVariants.{NoMemory}
use Rattle.run_commands.specs.SimReports.{IsStopOf}
use Rattle.run_commands.specs.States.{IsBehind, IsStateOf}
use Rattle.run_commands.proofs.Simulated.{without_memory}
use Rattle.run_commands.proofs.Stating.{state_so}
use Rattle.run_commands.proofs.state_command.state_script.Goals as goal

pub returns-clause-told : goal.returns-clause-told
returns-clause-told g c =
    let script = script_of c.args.script.now in
    let says = c.args.events.now.says in
    let log = c.log.result.now in
    let logged = c.log.ensures.log ∙ ap (λ (r : RunState). r.log) c.board.ensures in
    IfOk-weaker c.state_behind-told.result (λ s. IsBehind script c.args.cluster c.args.at log (string_bytes s.text) s.status)
    (λ s. IsStateOf script c.args.cluster c.args.at says (string_bytes s.text) s.status)
    (λ s told. state_so script c.args.cluster c.args.at says c.in-Ok.replay log (string_bytes s.text) s.status c.in-Ok.ensures.replayed logged told)
    c.state_behind-told.ensures.told

pub returns-clause-stopped : goal.returns-clause-stopped
returns-clause-stopped g c =
    let script = script_of c.args.script.now in
    let says = c.args.events.now.says in
    let numbers = c.args.events.now.numbers in
    IfErr-weaker c.state_behind-told.result (λ r. r ≡ NoMemory) (IsStopOf script c.args.cluster says numbers)
    (without_memory script c.args.cluster says numbers) c.state_behind-told.ensures.only
