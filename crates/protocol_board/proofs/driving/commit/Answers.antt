use Rattle.std.proofs.Common.{subst, sym}
use Rattle.protocol_core.specs.of_protocol_laws.Given.{IsOfLog}
use Rattle.protocol_core.specs.Steps.{reply_of}
use Rattle.protocol_board.specs.Views.{course_of}
use Rattle.protocol_board.proofs.Own.{all_agree, frames_behind, kept_with}
use Rattle.protocol_board.proofs.Turning.{committed_so, broken_so}
use Rattle.protocol_board.proofs.driving.commit.Goals as goal

pub run-requires-clause-own : goal.run-requires-clause-own
run-requires-clause-own g c = all_agree c.args.board.now.log c.args.frames.now c.args.job c.requires.frames c.requires.own

pub go-requires : goal.go-requires
go-requires g c = subst (IsOfLog c.args.board.now.log) (sym c.in-Ok.ensures.own) c.requires.own

pub returns-in-Ok-taken-clause-frames : goal.returns-in-Ok-taken-clause-frames
returns-in-Ok-taken-clause-frames g c =
    let log = c.args.board.now.log in
    let kept = kept_with log c.args.job c.args.frames.now c.run.new.self c.requires.frames c.requires.own c.run.ensures.kept in
    frames_behind c.args.board.now c.go.new.board c.run.new.self c.in-Ok-go.ensures.goes.answers kept

pub returns-in-Ok-taken-clause-committed : goal.returns-in-Ok-taken-clause-committed
returns-in-Ok-taken-clause-committed g c =
    committed_so g.S.ScriptName.script (course_of c.args.board.now c.args.sent.now) (course_of c.go.new.board c.go.new.sent) c.args.job c.in-Ok.done
    c.number-number.result (reply_of c.in-Ok-go.told) c.number-number.ensures c.in-Ok.ensures.own c.in-Ok.ensures.is_true c.in-Ok-go.ensures.goes
    c.in-Ok-taken.ensures.taken

pub returns-in-Err-taken-clause-broken : goal.returns-in-Err-taken-clause-broken
returns-in-Err-taken-clause-broken g c =
    broken_so g.S.ScriptName.script (course_of c.args.board.now c.args.sent.now) (course_of c.go.new.board c.go.new.sent) c.args.job c.in-Ok.done
    c.number-number.result (reply_of c.in-Ok-go.told) c.in-Err-taken.refusal c.number-number.ensures c.in-Ok.ensures.own c.in-Ok.ensures.is_true
    c.in-Ok-go.ensures.goes c.in-Err-taken.ensures.refused
