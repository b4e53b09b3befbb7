use Rattle.owed_replies.proofs.Runs.{law_of_ends}
use Rattle.owed_replies.proofs.law.law_of_ends.Goals as goal

pub returns : goal.returns
returns c = law_of_ends
