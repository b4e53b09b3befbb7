use Rattle.std.proofs.Common.{suc, refl, sym, ◌∙◌}
use Rattle.protocol_board.proofs.Playing.{no_event, one_more}
use Rattle.protocol_board.proofs.replay.Replay.settle.Goals as goal

pub loop-event-init : goal.loop-event-init
loop-event-init g c = record { settles = (0, no_event g.S.ScriptName.script c.args.but.now c.args.self.now); same = refl }

pub loop-event-preserved : goal.loop-event-preserved
loop-event-preserved g c =
    let before = c.args.self.now in
    let between = c.loop-event.self in
    let after = c.take.new.self in
    let h = c.loop-event.invariant.settles in
    let named = sym c.in-Some.ensures in
    let step = c.in_ok-take.ensures.step in
    record {
      settles = (suc h.0, one_more g.S.ScriptName.script c.args.but.now h.0 before between after c.in-Some.event h.1 named step);
      same = c.in_ok-take.ensures.same ∙ c.loop-event.invariant.same;
    }
