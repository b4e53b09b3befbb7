use Rattle.std.proofs.Common.{◌∙◌, ap, sym}
use Rattle.summary_text.specs.Columns.{begins_after}
use Rattle.summary_text.proofs.columns.begins_after.Goals as goal

pub returns-in-Begun : goal.returns-in-Begun
returns-in-Begun c = λ h k.
    c.is_further.ensures h k
    ∙ ap (λ e. begins_after c.args.log.now c.args.function.now c.args.accepted e) (sym c.in-Begun.is)
