use Rattle.owed_replies.proofs.Laws.{law_of_replies}
use Rattle.owed_replies.proofs.law.law_of_replies.Goals as goal

pub returns : goal.returns
returns c = law_of_replies
