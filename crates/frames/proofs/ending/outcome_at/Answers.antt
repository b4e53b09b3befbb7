use Rattle.std.proofs.Common.{◌∙◌, sym, ap, arith}
use Rattle.meaning.specs.Values.{Returned, Val, first_outcome}
use Rattle.frames.specs.Values.{value_of}
use Rattle.frames.proofs.Endings.{none_left}
use Rattle.frames.proofs.Stopping.{next_of}
use Rattle.frames.proofs.ending.outcome_at.Goals as goal

pub returns-then-place-values : goal.returns-then-place-values
returns-then-place-values c = sym (none_left c.args.values.now c.args.place (omega (arith, c.if-place-values.true)))

pub returns : goal.returns
returns c =
    ap Val c.in_ok-share.ensures
    ∙ sym (ap (λ vs. first_outcome (Returned vs)) (next_of value_of c.args.values.now c.args.place c.index-values-place.result (omega (arith, c.if-place-values.false)) c.index-values-place.is))
