use Rattle.std.proofs.Common.{◌≡◌, ap, ◌∙◌}
use Rattle.frames.specs.Values.{value_of}
use Rattle.evaluation.specs.TaskValues.{IsTaskValue}
use Rattle.evaluation.specs.declared.convert.ConversionError.{ConversionError}
use Rattle.evaluation.specs.declared.convert.ConversionError.TheVariants.{HasOutcome}
use Rattle.frames.specs.declared.value.Items.{Items}
use Rattle.evaluation.proofs.Conversions.{to_list, item_within}
use Rattle.evaluation.proofs.Standing.{handed_on}
use Rattle.evaluation.proofs.convert.+to_value.Goals as goal

pub returns-in_err-to_value-in-List-clause-plain :
    goal.returns-in_err-to_value-in-List-clause-plain
returns-in_err-to_value-in-List-clause-plain t c =
    handed_on (λ (e : ConversionError). e ≡ HasOutcome → IsTaskValue (value_of c.args.value.now) → ⊥) c.from_residual.result c.in_err-to_value-in-List.field-0.0 c.from_residual.ensures.1
    (λ e p. c.in_err-to_value-in-List.ensures.plain e (item_within c.args.value.now c.in-List.items c.deref-item-items.result.now c.loop-item.item-index c.item-item.result c.in-List.is (c.deref-item-items.ensures.value ∙ ap (λ (i : Items). i.values.items) c.deref-in-List.ensures) c.loop-item-test.true c.item-item.is p))

pub returns-after-loop-item-clause-value : goal.returns-after-loop-item-clause-value
returns-after-loop-item-clause-value t c =
    to_list c.args.value.now c.in-List.items c.loop-item.values c.deref-item-items.result.now c.loop-item.item-index c.loop-item.invariant c.loop-item-test.false (c.deref-item-items.ensures.value ∙ ap (λ (i : Items). i.values.items) c.deref-in-List.ensures) c.in-List.is
