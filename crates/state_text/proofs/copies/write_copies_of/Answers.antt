use Rattle.state_text.proofs.Below.{begun_told, further_told}
use Rattle.state_text.proofs.copies.write_copies_of.Goals as goal

pub loop-place-init : goal.loop-place-init
loop-place-init c = begun_told _ _

pub loop-place-preserved : goal.loop-place-preserved
loop-place-preserved c = further_told _ _ _ _ _ c.loop-place.invariant c.in_ok-write_row_copies.ensures
