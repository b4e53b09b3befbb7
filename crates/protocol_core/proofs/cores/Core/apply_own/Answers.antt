use Rattle.std.proofs.Common.{subst}
use Rattle.protocol_core.specs.Limits.{Limits}
use Rattle.protocol_core.specs.Owed.{Pays}
use Rattle.protocol_core.specs.Steps.{AnswersAsShown, reply_of}
use Rattle.protocol_core.specs.Views.{state_of}
use Rattle.protocol_core.proofs.cores.Core.apply_own.Goals as goal

pub returns-clause-shown : goal.returns-clause-shown
returns-clause-shown g c =
    subst (λ d. AnswersAsShown g.S.ScriptName.script d c.args.event c.args.done (state_of c.step.new.state) (reply_of c.step.result))
    c.self.view_is c.step.ensures.shown

pub returns-clause-paid : goal.returns-clause-paid
returns-clause-paid g c =
    subst (λ d. Pays g.S.ScriptName.script d c.args.event c.args.seat c.args.done (state_of c.step.new.state) (reply_of c.step.result))
    c.self.view_is c.step.ensures.paid

pub returns-clause-limited : goal.returns-clause-limited
returns-clause-limited g c =
    subst (λ d. Limits g.S.ScriptName.script d c.args.event c.args.seat c.args.done (state_of c.step.new.state) (reply_of c.step.result))
    c.self.view_is c.step.ensures.limited
