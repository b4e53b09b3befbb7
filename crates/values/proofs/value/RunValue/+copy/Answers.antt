use Rattle.std.proofs.Common.{sym, ap, ◌∙◌}
use Rattle.values.specs.Values.{value_of}
use Rattle.values.proofs.Rows.{list_copied}
use Rattle.values.proofs.value.RunValue.+copy.Goals as goal

pub returns-after-loop-item : goal.returns-after-loop-item
returns-after-loop-item t c =
    list_copied c.in-List.items c.loop-item.copies c.deref-item-items.result.now c.loop-item.item-index c.loop-item.invariant c.loop-item-test.false (c.deref-item-items.ensures.value)
    ∙ ap value_of (sym c.in-List.is)
