use Rattle.std.proofs.Common.{◌+◌, [], Some, ap, rules, subst, sym, ◌∙◌}
use Rattle.protocol_board.specs.Replays.{EventPlays, HistoryStops, PlaysHistory, from_first}
use Rattle.protocol_board.proofs.Playing.{item_copied, no_item, one_more_item}
use Rattle.protocol_board.proofs.replay.Replay.play_history.Goals as goal

-- at first no event is played
pub loop-said-init : goal.loop-said-init
loop-said-init g c =
    let first = from_first c.args.self.now in
    record {
      plays = subst (λ p. PlaysHistory g.S.ScriptName.script [] first p) (sym c.restart.ensures.first) (no_item (EventPlays g.S.ScriptName.script) first);
      counted = c.restart.ensures.begun;
    }

-- it stops at the event at which that one's play stops
pub returns-in_err-play_event-clause-stops : goal.returns-in_err-play_event-clause-stops
returns-in_err-play_event-clause-stops g c =
    let lines = c.deref-said-items.result.now in
    let same = c.deref-said-items.ensures.value ∙ c.events.view_is in
    let said = c.said-item.result in
    let at = item_copied lines c.args.events.now c.loop-said.said-index said same c.loop-said-test.true ∙ ap (λ x. Some x) (sym c.said-item.is) in
    let why : HistoryStops g.S.ScriptName.script c.args.events.now (from_first c.args.self.now) c.play_event.new.self c.in_err-play_event.field-0.0 =
    (c.loop-said.said-index, said, c.loop-said.self, at, c.loop-said.invariant.plays, c.in_err-play_event.ensures.stops) in
    search (rules, why)

-- one event more
pub loop-said-preserved : goal.loop-said-preserved
loop-said-preserved g c =
    let lines = c.deref-said-items.result.now in
    let same = c.deref-said-items.ensures.value ∙ c.events.view_is in
    let said = c.said-item.result in
    let at = item_copied lines c.args.events.now c.loop-said.said-index said same c.loop-said-test.true ∙ ap (λ x. Some x) (sym c.said-item.is) in
    let before = from_first c.args.self.now in
    let between = c.loop-said.self in
    let after = c.play_event.new.self in
    let plays = c.in_ok-play_event.ensures.plays in
    let h = c.loop-said.invariant in
    record {
      plays = one_more_item (EventPlays g.S.ScriptName.script) c.args.events.now c.loop-said.said-index said before between after at h.plays plays;
      counted = c.in_ok-play_event.ensures.counted ∙ ap (λ k. k + 1) h.counted;
    }
