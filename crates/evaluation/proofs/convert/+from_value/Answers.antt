use Rattle.evaluation.proofs.Conversions.{from_list}
use Rattle.evaluation.proofs.convert.+from_value.Goals as goal

pub returns-in_ok-list-in-List : goal.returns-in_ok-list-in-List
returns-in_ok-list-in-List t c =
    from_list c.in_ok-list-in-List.field-0 c.args.value.now c.in-List.items c.deref-item-items.result.now c.loop-item.values.items c.loop-item.item-index c.in_ok-list-in-List.ensures c.loop-item.invariant c.loop-item-test.false c.deref-item-items.ensures.value c.in-List.is
