use Rattle.std.proofs.Common.{◌≡◌, ◌+◌, map, drop, arith}
use Rattle.meaning.specs.Values.{Returned, outcomes}
use Rattle.frames.specs.Values.{value_of}
use Rattle.frames.proofs.Endings.{without_next}
use Rattle.evaluation.specs.TaskValues.{AreTaskOutcomes}
use Rattle.evaluation.specs.Pieces.{HasBroken}
use Rattle.evaluation.specs.declared.convert.ConversionError.{ConversionError}
use Rattle.evaluation.specs.declared.convert.ConversionError.TheVariants.{Broken, HasOutcome}
use Rattle.evaluation.proofs.Standing.{handed_on}
use Rattle.evaluation.proofs.Results.{contents_next, contents_end, broken_next, task_next}
use Rattle.evaluation.proofs.piece.of_values.Goals as goal

pub loop-place-preserved : goal.loop-place-preserved
loop-place-preserved c =
    contents_next c.loop-place.contents c.push.new.self c.in_ok-content_at.field-0
    (Returned (map value_of (drop c.loop-place.place c.args.values.now))) (Returned (map value_of (drop (c.loop-place.place + 1) c.args.values.now)))
    c.args.count c.loop-place.place _ c.loop-place-test.true c.in_ok-push.ensures.ok c.in_ok-content_at.ensures.value
    (without_next c.args.values.now c.loop-place.place) c.loop-place.invariant

pub returns-in_err-content_at-clause-broken : goal.returns-in_err-content_at-clause-broken
returns-in_err-content_at-clause-broken c =
    let all = outcomes c.args.count (Returned (map value_of c.args.values.now)) in
    handed_on (λ (e : ConversionError). e ≡ Broken → HasBroken all) c.from_residual.result c.in_err-content_at.field-0.0 c.from_residual.ensures.1
    (λ e. broken_next c.loop-place.contents (Returned (map value_of (drop c.loop-place.place c.args.values.now))) c.args.count c.loop-place.place all
    c.loop-place-test.true (c.in_err-content_at.ensures.broken e) c.loop-place.invariant)

pub returns-in_err-content_at-clause-plain : goal.returns-in_err-content_at-clause-plain
returns-in_err-content_at-clause-plain c =
    let all = outcomes c.args.count (Returned (map value_of c.args.values.now)) in
    handed_on (λ (e : ConversionError). e ≡ HasOutcome → AreTaskOutcomes all → ⊥) c.from_residual.result c.in_err-content_at.field-0.0 c.from_residual.ensures.1
    (λ e plain. c.in_err-content_at.ensures.plain e (task_next c.loop-place.contents
    (Returned (map value_of (drop c.loop-place.place c.args.values.now))) c.args.count c.loop-place.place all c.loop-place-test.true c.loop-place.invariant plain))

pub returns-clause-value : goal.returns-clause-value
returns-clause-value c =
    contents_end c.loop-place.contents (Returned (map value_of (drop c.loop-place.place c.args.values.now))) c.args.count c.loop-place.place _
    (omega (arith, c.loop-place-test.false)) c.loop-place.invariant
