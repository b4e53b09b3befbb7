use Rattle.owed_replies.proofs.Runs.{opening_keeps_replies}
use Rattle.owed_replies.proofs.law.opening_keeps_replies.Goals as goal

pub returns : goal.returns
returns c = opening_keeps_replies
