use Rattle.std.proofs.Common.{subst}
use Rattle.protocol_core.specs.Steps.{AnswersAsShown, reply_of}
use Rattle.protocol_board.proofs.board.Board.apply.Goals as goal

pub returns-clause-shown : goal.returns-clause-shown
returns-clause-shown g c =
    subst (λ d. AnswersAsShown g.S.ScriptName.script d c.args.event c.args.done c.apply.new.self (reply_of c.apply.result))
    c.self.view_is c.apply.ensures.shown
