use Rattle.std.proofs.Common.{[], ◌∙◌, ap, subst, sym}
use Rattle.script_check.specs.Trees.{script_of}
use Rattle.fault_runs.specs.of_protocol_board.Cores.{IsSoundLog, RunState}
use Rattle.fault_runs.specs.of_protocol_board.Replays.{Play, from_first}
use Rattle.run_commands.specs.SimReports.{number_of}
use Rattle.run_commands.proofs.Simulated.{replayed_so, stopped_so}
use Rattle.run_commands.proofs.replays.replayed.Goals as goal

pub returns-in-Ok-play_file-clause-replayed : goal.returns-in-Ok-play_file-clause-replayed
returns-in-Ok-play_file-clause-replayed g c =
    let first : RunState → Play = λ r. record { run = r; jobs = []; applied = 0; sent = []; begun = 0; lines = [] } in
    replayed_so (script_of c.args.script.now) g.S.ScriptName.script c.args.cluster c.args.events.now.says
    (from_first c.new-replay.result) c.new-replay.result c.play_file.new.self c.requires
    (ap from_first c.new-replay.ensures ∙ sym c.new-replay.ensures) (c.new-replay.ensures ∙ ap first c.in-Ok.ensures)
    c.in-Ok-play_file.ensures.plays (subst (λ r. IsSoundLog g.S.ScriptName.script r) c.board.ensures c.log.ensures.meant)

pub returns-in-Err-play_file-clause-stopped : goal.returns-in-Err-play_file-clause-stopped
returns-in-Err-play_file-clause-stopped g c =
    let first : RunState → Play = λ r. record { run = r; jobs = []; applied = 0; sent = []; begun = 0; lines = [] } in
    stopped_so (script_of c.args.script.now) g.S.ScriptName.script c.args.cluster c.args.events.now.says c.args.events.now.numbers
    (from_first c.new-replay.result) c.new-replay.result c.play_file.new.self c.in-Err-play_file.stopped c.number_of.result c.stop_refusal-refusal.result c.requires
    (ap from_first c.new-replay.ensures ∙ sym c.new-replay.ensures) (c.new-replay.ensures ∙ ap first c.in-Ok.ensures)
    c.in-Err-play_file.ensures.stops (c.number_of.ensures ∙ ap (number_of c.args.events.now.numbers) c.begun.ensures) c.stop_refusal-refusal.ensures
