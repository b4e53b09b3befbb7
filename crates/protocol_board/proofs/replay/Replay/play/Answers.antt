use Rattle.std.proofs.Common.{◌+◌, [], rules, sym, ap, subst, ◌∙◌}
use Rattle.protocol_board.specs.Replays.{LinePlays, PlayStops, Plays, from_first}
use Rattle.protocol_board.proofs.Playing.{item_there, no_item, one_more_item}
use Rattle.protocol_board.proofs.replay.Replay.play.Goals as goal

-- at first no line is played
pub loop-line-init : goal.loop-line-init
loop-line-init g c =
    let first = from_first c.args.self.now in
    record {
      plays = subst (λ p. Plays g.S.ScriptName.script [] first p) (sym c.restart.ensures.first) (no_item (LinePlays g.S.ScriptName.script) first);
      counted = c.restart.ensures.begun;
    }

-- it stops at the line at which that one's play stops
pub returns-in_err-play_line-clause-stops : goal.returns-in_err-play_line-clause-stops
returns-in_err-play_line-clause-stops g c =
    let lines = c.deref-line-items.result.now in
    let same = c.deref-line-items.ensures.value ∙ c.lines.view_is in
    let at = item_there lines c.args.lines.now c.loop-line.line-index c.line-item.result same c.loop-line-test.true c.line-item.is in
    let why : PlayStops g.S.ScriptName.script c.args.lines.now (from_first c.args.self.now) c.play_line.new.self c.in_err-play_line.field-0.0 =
    (c.loop-line.line-index, c.line-item.result, c.loop-line.self, at, c.loop-line.invariant.plays, c.in_err-play_line.ensures.stops) in
    search (rules, why)

-- one line more
pub loop-line-preserved : goal.loop-line-preserved
loop-line-preserved g c =
    let lines = c.deref-line-items.result.now in
    let same = c.deref-line-items.ensures.value ∙ c.lines.view_is in
    let at = item_there lines c.args.lines.now c.loop-line.line-index c.line-item.result same c.loop-line-test.true c.line-item.is in
    let before = from_first c.args.self.now in
    let between = c.loop-line.self in
    let after = c.play_line.new.self in
    let plays = c.in_ok-play_line.ensures.plays in
    let h = c.loop-line.invariant in
    record {
      plays = one_more_item (LinePlays g.S.ScriptName.script) c.args.lines.now c.loop-line.line-index c.line-item.result before between after at h.plays plays;
      counted = c.in_ok-play_line.ensures.counted ∙ ap (λ k. k + 1) h.counted;
    }
