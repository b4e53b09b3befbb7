use Rattle.protocol_data.proofs.Copying.{one_more}
use Rattle.protocol_data.proofs.objects.Objects.copy.Goals as goal

pub loop-place-preserved : goal.loop-place-preserved
loop-place-preserved c = one_more _ _ _ _ _ _ c.loop-place.invariant c.row.ensures c.in_ok-copy.ensures c.in_ok-push.ensures.ok
