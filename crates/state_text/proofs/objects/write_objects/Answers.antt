use Rattle.state_text.proofs.Below.{begun_told, further_told}
use Rattle.state_text.proofs.objects.write_objects.Goals as goal

pub loop-place-init : goal.loop-place-init
loop-place-init c = λ h. begun_told _ _

pub loop-place-preserved : goal.loop-place-preserved
loop-place-preserved c = λ h. further_told _ _ _ _ _ (c.loop-place.invariant h) (c.in_ok-write_row.ensures h)
