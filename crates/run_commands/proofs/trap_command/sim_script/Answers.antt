use Rattle.std.proofs.Common.{◌∙◌, ap, string_bytes}
use Rattle.std.proofs.lemmas.Result.{IfOk-weaker}
use Rattle.script_check.specs.Trees.{script_of}
use Rattle.fault_runs.specs.of_protocol_board.Cores.{RunState}
use Rattle.trap_text.specs.Text.{IsTrapTold}
use Rattle.run_commands.specs.TrapReports.{IsReplayTrap}
use Rattle.run_commands.proofs.Trapping.{replay_trap_so}
use Rattle.run_commands.proofs.trap_command.sim_script.Goals as goal

pub returns-clause-told : goal.returns-clause-told
returns-clause-told g c =
    let script = script_of c.args.placed.now.script in
    let text = c.args.text.now in
    let places = c.args.placed.now.places.items in
    let logged = c.log.ensures.log ∙ ap (λ (r : RunState). r.log) c.board.ensures in
    IfOk-weaker c.told_of-told.result (λ s. IsTrapTold script text places c.log.result.now c.args.asked (string_bytes s))
    (λ s. IsReplayTrap script c.args.cluster text places c.args.says.now c.args.asked (string_bytes s))
    (λ s told. replay_trap_so script c.args.cluster text places c.args.says.now c.args.asked c.in-Ok.replay c.log.result.now (string_bytes s)
    c.in-Ok.ensures.replayed logged told) c.told_of-told.ensures.told
