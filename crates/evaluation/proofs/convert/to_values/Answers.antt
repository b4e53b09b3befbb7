use Rattle.std.proofs.Common.{◌≡◌, map}
use Rattle.frames.specs.Values.{value_of}
use Rattle.evaluation.specs.TaskValues.{EachTaskValue}
use Rattle.evaluation.specs.declared.convert.ConversionError.{ConversionError}
use Rattle.evaluation.specs.declared.convert.ConversionError.TheVariants.{HasOutcome}
use Rattle.evaluation.proofs.Conversions.{value_within}
use Rattle.evaluation.proofs.Standing.{handed_on}
use Rattle.evaluation.proofs.convert.to_values.Goals as goal

pub returns-in_err-to_value-clause-plain : goal.returns-in_err-to_value-clause-plain
returns-in_err-to_value-clause-plain c =
    handed_on (λ (e : ConversionError). e ≡ HasOutcome → EachTaskValue (map value_of c.args.values.now) → ⊥) c.from_residual-in_err-to_value.result c.in_err-to_value.field-0.0 c.from_residual-in_err-to_value.ensures.1
    (λ e p. c.in_err-to_value.ensures.plain e (value_within c.args.values.now c.loop-value.value-index c.value-item.result c.loop-value-test.true c.value-item.is p))
