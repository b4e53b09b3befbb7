use Rattle.std.proofs.Common.{◌∙◌, sym, ap, subst, arith}
use Rattle.meaning.specs.Values.{Returned, Val, first_outcome}
use Rattle.frames.specs.Values.{value_of}
use Rattle.frames.proofs.Endings.{none_left}
use Rattle.frames.proofs.Stopping.{next_of}
use Rattle.evaluation.specs.TaskValues.{IsTaskOutcome}
use Rattle.evaluation.proofs.piece.content_at.Goals as goal

pub returns-then-place-values-clause-broken : goal.returns-then-place-values-clause-broken
returns-then-place-values-clause-broken c = λ e. none_left c.args.values.now c.args.place (omega (arith, c.if-place-values.true))

pub returns-in_ok-new-in-Ok-clause-value : goal.returns-in_ok-new-in-Ok-clause-value
returns-in_ok-new-in-Ok-clause-value c =
    c.in_ok-new-in-Ok.ensures ∙ ap Val c.in-Ok.ensures.value
    ∙ sym (ap (λ vs. first_outcome (Returned vs))
    (next_of value_of c.args.values.now c.args.place c.index-values-place.result (omega (arith, c.if-place-values.false)) c.index-values-place.is))

pub returns-in-Err-clause-broken : goal.returns-in-Err-clause-broken
returns-in-Err-clause-broken c = λ e. absurd (c.in-Err.ensures.kind e)

pub returns-in-Err-clause-plain : goal.returns-in-Err-clause-plain
returns-in-Err-clause-plain c =
    λ e plain. c.in-Err.ensures.plain e (subst (λ vs. IsTaskOutcome (first_outcome (Returned vs)))
    (next_of value_of c.args.values.now c.args.place c.index-values-place.result (omega (arith, c.if-place-values.false)) c.index-values-place.is) plain)
