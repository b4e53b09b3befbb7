use Rattle.std.proofs.Common.{◌≡◌, [], ap, subst, ◌∙◌}
use Rattle.protocol_board.specs.Replays.{Play, Plays, PlayStops, from_first}
use Rattle.fault_runs.specs.Replays.{first_play}
use Rattle.fault_runs.proofs.replayed.replay_lines.Goals as goal

-- it begins as a replay on that cluster does
pub returns-in-Ok-play : goal.returns-in-Ok-play
returns-in-Ok-play g c =
    let script = g.S.ScriptName.script in
    let begun : c.new-replay.result ≡ first_play c.args.cluster = c.new-replay.ensures ∙ ap {B = Play} (λ core. record { run = core; jobs = []; applied = 0; sent = []; begun = 0; lines = [] }) c.in-Ok.ensures in
    subst (λ p. Plays script c.args.lines.now (from_first p) c.play.new.self) begun c.in-Ok-play.ensures.plays

-- before an event more than it may have it stops as the lines stop
pub returns-in-Err-TooLong : goal.returns-in-Err-TooLong
returns-in-Err-TooLong g c =
    let script = g.S.ScriptName.script in
    let begun : c.new-replay.result ≡ first_play c.args.cluster = c.new-replay.ensures ∙ ap {B = Play} (λ core. record { run = core; jobs = []; applied = 0; sent = []; begun = 0; lines = [] }) c.in-Ok.ensures in
    subst (λ s. PlayStops script c.args.lines.now (first_play c.args.cluster) c.play.new.self s) c.in-Err-TooLong.field-0-is
    (subst (λ p. PlayStops script c.args.lines.now (from_first p) c.play.new.self c.in-Err-TooLong.field-0) begun c.in-Err-TooLong.ensures.stops)
