use Rattle.state_text.proofs.Below.{begun_told, further_told}
use Rattle.state_text.proofs.copies.write_earlier.Goals as goal

pub loop-earlier-init : goal.loop-earlier-init
loop-earlier-init c = begun_told _ _

pub loop-earlier-preserved : goal.loop-earlier-preserved
loop-earlier-preserved c = further_told _ _ _ _ _ c.loop-earlier.invariant c.in_ok-write_copy.ensures
