use Rattle.std.proofs.Common.{[], ◌∙◌, ap, subst, sym}
use Rattle.script_check.specs.Trees.{script_of}
use Rattle.fault_runs.specs.of_protocol_board.Cores.{IsSoundLog, RunState}
use Rattle.fault_runs.specs.of_protocol_board.Replays.{Play, from_first}
use Rattle.run_commands.proofs.UpToThere.{played_so}
use Rattle.run_commands.proofs.replays.replayed_so_far.Goals as goal

pub returns-clause-replayed : goal.returns-clause-replayed
returns-clause-replayed g c =
    let first : RunState → Play = λ r. record { run = r; jobs = []; applied = 0; sent = []; begun = 0; lines = [] } in
    played_so (script_of c.args.script.now) g.S.ScriptName.script c.args.cluster c.args.says.now
    (from_first c.new-replay.result) c.new-replay.result c.play_so_far.new.replay c.requires
    (ap from_first c.new-replay.ensures ∙ sym c.new-replay.ensures) (c.new-replay.ensures ∙ ap first c.in-Ok.ensures)
    c.in_default.ensures.played (subst (λ r. IsSoundLog g.S.ScriptName.script r) c.board.ensures c.log.ensures.meant)
