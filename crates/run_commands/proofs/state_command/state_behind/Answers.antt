use Rattle.std.proofs.Common.{string_bytes}
use Rattle.std.proofs.lemmas.Result.{IfOk-weaker}
use Rattle.script_check.specs.Trees.{script_of}
use Rattle.run_commands.specs.States.{IsBehind, IsStateNow}
use Rattle.run_commands.proofs.Stating.{behind_so}
use Rattle.run_commands.proofs.state_command.state_behind.Goals as goal

pub returns-in-Ok-replay_lines-clause-told : goal.returns-in-Ok-replay_lines-clause-told
returns-in-Ok-replay_lines-clause-told g c =
    let script = script_of c.args.script.now in
    let run = c.board.result.now in
    let all = c.event_count.result in
    let again = c.in-Ok-replay_lines.run' in
    IfOk-weaker c.state_now-told.result (λ s. IsStateNow run all (string_bytes s.text) s.status)
    (λ s. IsBehind script c.args.cluster c.args.at c.args.log.now (string_bytes s.text) s.status)
    (λ s told. behind_so script g.S.ScriptName.script c.args.cluster c.args.at c.args.log.now again.replay again.is_stopped c.in-Ok.lines run all
    (string_bytes s.text) s.status c.requires c.in-Ok.ensures c.in-Ok-replay_lines.ensures c.board.ensures c.state_now-told.ensures.meant c.event_count.ensures
    told) c.state_now-told.ensures.told
