use Rattle.std.proofs.Common.{length}
use Rattle.refusal_reasons.proofs.line.+workers_reason.Given as goal

abbrev pub decreases-workers_reason : goal.decreases-workers_reason
decreases-workers_reason l = length l.text.now
