use Rattle.std.proofs.Common.{◌≡◌, map}
use Rattle.frames.specs.Values.{value_of}
use Rattle.evaluation.specs.TaskValues.{EachTaskValue}
use Rattle.evaluation.specs.declared.convert.ConversionError.{ConversionError}
use Rattle.evaluation.specs.declared.convert.ConversionError.TheVariants.{HasOutcome}
use Rattle.evaluation.proofs.Conversions.{value_within}
use Rattle.evaluation.proofs.Standing.{handed_on}
use Rattle.evaluation.proofs.convert.to_prints.Goals as goal

pub returns-in_err-inner-clause-plain : goal.returns-in_err-inner-clause-plain
returns-in_err-inner-clause-plain c =
    handed_on (λ (e : ConversionError). e ≡ HasOutcome → EachTaskValue (map value_of c.args.values.now) → ⊥) c.from_residual-in_err-inner.result c.in_err-inner.field-0.0 c.from_residual-in_err-inner.ensures.1
    (λ e p. c.in_err-inner.ensures.plain e (value_within c.args.values.now c.loop-value.value-index c.value-item.result c.loop-value-test.true c.value-item.is p))
