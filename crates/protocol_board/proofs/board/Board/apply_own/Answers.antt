use Rattle.std.proofs.Common.{subst}
use Rattle.protocol_core.specs.Steps.{AnswersAsShown, reply_of}
use Rattle.protocol_board.proofs.board.Board.apply_own.Goals as goal

pub returns-clause-shown : goal.returns-clause-shown
returns-clause-shown g c =
    subst (λ d. AnswersAsShown g.S.ScriptName.script d c.args.event c.args.done c.apply_own.new.self (reply_of c.apply_own.result))
    c.self.view_is c.apply_own.ensures.shown
