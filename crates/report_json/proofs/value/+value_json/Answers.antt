use Rattle.std.proofs.Common.{sym, ap, ◌∙◌}
use Rattle.values.specs.Values.{value_of}
use Rattle.report_json.specs.Values.{value_data}
use Rattle.report_json.proofs.Lists.{list_written}
use Rattle.report_json.proofs.value.+value_json.Goals as goal

pub returns-after-loop-item : goal.returns-after-loop-item
returns-after-loop-item t c =
    c.array_of.ensures
    ∙ list_written c.in-List.items c.loop-item.all.items c.deref-item-items.result.now c.loop-item.item-index c.loop-item.invariant c.loop-item-test.false (c.deref-item-items.ensures.value)
    ∙ ap (λ v. value_data (value_of v)) (sym c.in-List.is)
