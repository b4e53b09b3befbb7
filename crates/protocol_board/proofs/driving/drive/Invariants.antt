use Rattle.std.proofs.Common.{ℕ, ◌-◌, ◌^◌, length}
use Rattle.protocol_board.specs.Views.{course_of}
use Rattle.protocol_board.specs.Drives.{Turns}
use Rattle.protocol_board.specs.Own.{FramesAreOwn}
use Rattle.protocol_board.proofs.driving.drive.Given as goal

-- some turns led here from where the run stood, and the frames that are kept are of its attempts
abbrev pub invariant-loop-event : goal.invariant-loop-event
invariant-loop-event g l = record {
  turns : (n : ℕ) × Turns g.S.ScriptName.script n (course_of l.fn.board l.fn.sent) (course_of l.board l.sent);
  frames : FramesAreOwn l.board.log l.frames;
}

abbrev pub decreases-loop-event : goal.decreases-loop-event
decreases-loop-event g l = 2 ^ 64 - length l.sent
