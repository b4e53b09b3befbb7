use Rattle.std.proofs.Common.{sym, ap, ◌∙◌}
use Rattle.values.specs.Values.{value_of}
use Rattle.values.specs.Listed.{ids_listed, adding}
use Rattle.values.proofs.ListedLaws.{one_more_added, items_added}
use Rattle.values.proofs.value.+add_ids.Goals as goal

pub loop-item-preserved : goal.loop-item-preserved
loop-item-preserved t c =
    one_more_added c.args.found.now.items c.loop-item.found.items c.add_ids.new.found.items c.deref-item-items.result.now c.loop-item.item-index c.item-item.result c.item-item.result
    c.loop-item-test.true (sym c.item-item.is) c.loop-item.invariant c.in_ok-add_ids-in-List.ensures.done

pub returns-after-loop-item-clause-done : goal.returns-after-loop-item-clause-done
returns-after-loop-item-clause-done t c =
    items_added c.args.found.now.items c.in-List.items c.deref-item-items.result.now c.loop-item.item-index c.loop-item.found.items c.loop-item.invariant c.loop-item-test.false c.deref-item-items.ensures.value
    ∙ ap (λ v. adding c.args.found.now.items (ids_listed (value_of v))) (sym c.in-List.is)
