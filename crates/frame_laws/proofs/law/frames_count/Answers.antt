use Rattle.frame_laws.proofs.Resuming.{frames_count}
use Rattle.frame_laws.proofs.law.frames_count.Goals as goal

pub returns : goal.returns
returns c = frames_count
