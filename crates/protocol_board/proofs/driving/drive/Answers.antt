use Rattle.std.proofs.Common.{subst, sym}
use Rattle.protocol_board.specs.Views.{course_of}
use Rattle.protocol_board.specs.Own.{FramesAreOwn}
use Rattle.protocol_board.proofs.Own.{none_kept}
use Rattle.protocol_board.proofs.Turning.{no_turn, one_more, is_next}
use Rattle.protocol_board.proofs.driving.drive.Goals as goal

-- at first no turn was taken, and no frame is kept
pub loop-event-init : goal.loop-event-init
loop-event-init g c =
    let log = c.args.board.now.log in
    record {
      turns = (0, no_turn g.S.ScriptName.script (course_of c.args.board.now c.args.sent.now));
      frames = subst (FramesAreOwn log) (sym c.new-frames.ensures) (none_kept log);
    }

pub take_turn-requires-clause-frames : goal.take_turn-requires-clause-frames
take_turn-requires-clause-frames g c = c.loop-event.invariant.frames

-- one turn more: of the event that the settle rule names
pub loop-event-preserved : goal.loop-event-preserved
loop-event-preserved g c =
    let between = course_of c.loop-event.board c.loop-event.sent in
    let e = c.in-Some.event in
    let named = is_next between c.new-nobody.result e c.new-nobody.ensures c.in-Some.ensures in
    let after = course_of c.take_turn.new.board c.take_turn.new.sent in
    let taken = c.in_ok-take_turn.ensures.taken in
    record {
      turns = one_more g.S.ScriptName.script (course_of c.args.board.now c.args.sent.now) between after e c.loop-event.invariant.turns named taken;
      frames = c.in_ok-take_turn.ensures.frames;
    }
