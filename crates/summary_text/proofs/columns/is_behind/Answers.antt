use Rattle.std.proofs.Common.{◌≡◌, ◌-◌, ◌==◌, false, if◌then◌else◌, sym, ap, ◌∙◌}
use Rattle.event_log.specs.Words.{attempt}
use Rattle.summary_text.specs.Columns.{same_truth, was_accepted}
use Rattle.summary_text.proofs.columns.is_behind.Goals as goal

pub returns : goal.returns
returns c log states =
    let earlier = attempt c.args.attempt.object (c.args.attempt.number - 1) in
    c.is_as.ensures
    ∙ ap (λ b. same_truth b c.args.accepted) (c.was_accepted.ensures log states ∙ ap (was_accepted log) c.before-earlier.ensures)
    ∙ sym (ap (λ b. if b then false else same_truth (was_accepted log earlier) c.args.accepted) (sym c.is_first.ensures ∙ c.if-is_first.false))
