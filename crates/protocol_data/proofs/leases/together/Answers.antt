use Rattle.std.proofs.Common.{◌∙◌}
use Rattle.protocol_data.proofs.Leasing.{next_apart}
use Rattle.protocol_data.proofs.leases.together.Goals as goal

pub push_if_any-requires : goal.push_if_any-requires
push_if_any-requires c =
    next_apart c.loop-row.again c.args.rows.now c.deref-row-items.result.now c.loop-row.row-index c.row-item.result c.requires
    (c.deref-row-items.ensures.value ∙ c.rows.view_is)
    c.loop-row.invariant c.loop-row-test.true c.row-item.is
