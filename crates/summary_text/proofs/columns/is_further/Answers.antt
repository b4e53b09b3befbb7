use Rattle.std.proofs.Common.{◌∙◌, ◌&&◌, ap}
use Rattle.summary_text.specs.Columns.{is_behind}
use Rattle.summary_text.proofs.columns.is_further.Goals as goal

pub returns : goal.returns
returns c = λ h k.
    c.both.ensures
    ∙ ap (λ b. b && c.is_attempt_of-made.result) (c.is_behind-behind.ensures c.args.log.now k)
    ∙ ap (λ m. is_behind c.args.log.now c.args.attempt c.args.accepted && m) (c.is_attempt_of-made.ensures h)
