use Rattle.summary_text.proofs.Below.{begun_told, further_told}
use Rattle.summary_text.proofs.functions.write_others.Goals as goal

pub loop-place-init : goal.loop-place-init
loop-place-init c = λ h k. begun_told _ _

pub loop-place-preserved : goal.loop-place-preserved
loop-place-preserved c = λ h k. further_told _ _ _ _ _ (c.loop-place.invariant h k) (c.in_ok-write_entry.ensures h k)
