use Rattle.std.proofs.Common.{◌≡◌, map}
use Rattle.frames.specs.Machines.{argument_of}
use Rattle.evaluation.specs.TaskValues.{AreTaskArguments}
use Rattle.evaluation.specs.declared.convert.ConversionError.{ConversionError}
use Rattle.evaluation.specs.declared.convert.ConversionError.TheVariants.{HasOutcome}
use Rattle.evaluation.proofs.Conversions.{argument_within}
use Rattle.evaluation.proofs.Standing.{handed_on}
use Rattle.evaluation.proofs.convert.to_arguments.Goals as goal

pub returns-in_err-value-clause-plain : goal.returns-in_err-value-clause-plain
returns-in_err-value-clause-plain c =
    handed_on (λ (e : ConversionError). e ≡ HasOutcome → AreTaskArguments (map argument_of c.args.arguments.now) → ⊥) c.from_residual.result c.in_err-value.field-0.0 c.from_residual.ensures.1
    (λ e p. c.in_err-value.ensures.plain e (argument_within c.args.arguments.now c.loop-argument.argument-index c.argument-item.result c.loop-argument-test.true c.argument-item.is p))
