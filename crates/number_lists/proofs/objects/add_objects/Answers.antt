use Rattle.std.proofs.Common.{length, ap, sym, ◌∙◌}
use Rattle.std.specs.Prelude.{not}
use Rattle.std.specs.List.{list_any}
use Rattle.protocol.specs.Sets.{has_id}
use Rattle.number_lists.proofs.Added.{one_is_new}
use Rattle.number_lists.proofs.objects.add_objects.Goals as goal

pub returns-in-Err-clause-grows : goal.returns-in-Err-clause-grows
returns-in-Err-clause-grows c =
    ap (list_any (λ o. not (has_id c.args.ids.now o))) (sym c.more.view_is ∙ sym c.deref-object-items.ensures.value)
    ∙ one_is_new c.args.ids.now c.loop-object.ids c.deref-object-items.result.now (length c.as_slice-before.result.now) c.loop-object.object-index c.object-item.result
    c.loop-object.invariant.1 c.loop-object-test.true c.object-item.is c.in-Err.ensures.grows
