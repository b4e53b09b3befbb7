use Rattle.owed_replies.proofs.Runs.{events_keep_replies}
use Rattle.owed_replies.proofs.law.events_keep_replies.Goals as goal

pub returns : goal.returns
returns c = events_keep_replies
