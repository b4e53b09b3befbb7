use Rattle.std.proofs.Common.{string_bytes}
use Rattle.std.proofs.lemmas.Result.{IfOk-weaker}
use Rattle.script_check.specs.Trees.{script_of}
use Rattle.run_commands.specs.SoFar.{IsReplaySoFar, IsToldOfReplay}
use Rattle.run_commands.proofs.UpToThere.{replay_told_so}
use Rattle.run_commands.proofs.so_far_command.sim_script.Goals as goal

pub returns-clause-told : goal.returns-clause-told
returns-clause-told g c =
    let script = script_of c.args.script.now in
    let says = c.args.events.now.says in
    let numbers = c.args.events.now.numbers in
    IfOk-weaker c.told_replay-told.result (λ s. IsToldOfReplay c.args.form numbers c.in-Ok.replay (string_bytes s.text) s.status)
    (λ s. IsReplaySoFar script c.args.cluster c.args.form says numbers (string_bytes s.text) s.status)
    (λ s told. replay_told_so script c.args.cluster c.args.form says numbers c.in-Ok.replay (string_bytes s.text) s.status c.in-Ok.ensures.replayed told)
    c.told_replay-told.ensures.told
