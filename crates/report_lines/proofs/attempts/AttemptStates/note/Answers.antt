use Rattle.std.proofs.Common.{◌||◌, ap, sym, ◌∙◌}
use Rattle.event_log.specs.Words.{accepted_in, ended_in, faulted_in}
use Rattle.report_lines.specs.Attempts.{any}
use Rattle.report_lines.specs.Sets.{has}
use Rattle.report_lines.proofs.Said.{said, on_ok}
use Rattle.report_lines.proofs.attempts.AttemptStates.note.Goals as goal

pub returns-in-Accepted-clause-accepted : goal.returns-in-Accepted-clause-accepted
returns-in-Accepted-clause-accepted c =
    on_ok c.add.result
    (λ h a. h a ∙ ap (λ t. has c.args.self.now.accepted a || t) (said a c.in-Accepted.attempt _ ∙ ap (λ e. any (accepted_in a e)) (sym c.in-Accepted.is)))
    c.add.ensures.done

pub returns-in-Ended-clause-ended : goal.returns-in-Ended-clause-ended
returns-in-Ended-clause-ended c =
    on_ok c.add-in-Ended.result
    (λ h a. h a ∙ ap (λ t. has c.args.self.now.ended a || t) (said a c.in-Ended.attempt _ ∙ ap (λ e. any (ended_in a e)) (sym c.in-Ended.is)))
    c.add-in-Ended.ensures.done

pub returns-in-Faulted-clause-faulted : goal.returns-in-Faulted-clause-faulted
returns-in-Faulted-clause-faulted c =
    on_ok c.add-in-Faulted.result
    (λ h a. h a ∙ ap (λ t. has c.args.self.now.faulted a || t) (said a c.in-Faulted.attempt _ ∙ ap (λ e. any (faulted_in a e)) (sym c.in-Faulted.is)))
    c.add-in-Faulted.ensures.done
