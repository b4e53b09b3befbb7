use Rattle.protocol_legal.proofs.FrameHolds.{steps_stay_legal}
use Rattle.protocol_legal.proofs.law.steps_stay_legal.Goals as goal

-- the law of all steps, gathered from those of each
pub returns : goal.returns
returns c = steps_stay_legal
