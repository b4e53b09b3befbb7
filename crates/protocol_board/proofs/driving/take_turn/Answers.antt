use Rattle.std.proofs.Common.{None, inr, subst}
use Rattle.protocol_core.specs.Steps.{reply_of}
use Rattle.protocol_board.specs.Drives.{Goes}
use Rattle.protocol_board.specs.Views.{course_of}
use Rattle.protocol_board.proofs.Own.{frames_behind}
use Rattle.protocol_board.proofs.driving.take_turn.Goals as goal

pub commit-requires-clause-frames : goal.commit-requires-clause-frames
commit-requires-clause-frames g c =
    frames_behind c.args.board.now c.go.new.board c.args.frames.now c.in-Ok-Job.ensures.goes.answers c.requires.frames

pub returns-in-Ok-Ok-clause-frames : goal.returns-in-Ok-Ok-clause-frames
returns-in-Ok-Ok-clause-frames g c =
    frames_behind c.args.board.now c.go.new.board c.args.frames.now c.in-Ok-Ok.ensures.goes.answers c.requires.frames

pub returns-in-Ok-clause-taken : goal.returns-in-Ok-clause-taken
returns-in-Ok-clause-taken g c =
    let before = course_of c.args.board.now c.args.sent.now in
    let claimed = course_of c.go.new.board c.go.new.sent in
    let given = subst (λ t. Goes before c.args.event None claimed (reply_of t)) c.in-Ok-Job.field-0-is c.in-Ok-Job.ensures.goes in
    inr (claimed, c.in-Ok-Job.job, given, c.in-Ok.ensures.committed)

pub returns-in-Err-commit-clause-broken : goal.returns-in-Err-commit-clause-broken
returns-in-Err-commit-clause-broken g c =
    let before = course_of c.args.board.now c.args.sent.now in
    let claimed = course_of c.go.new.board c.go.new.sent in
    let given = subst (λ t. Goes before c.args.event None claimed (reply_of t)) c.in-Ok-Job.field-0-is c.in-Ok-Job.ensures.goes in
    inr (inr (claimed, c.in-Ok-Job.job, given, c.in-Err-commit.ensures.broken))
