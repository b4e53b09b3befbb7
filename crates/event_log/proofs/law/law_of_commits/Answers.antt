use Rattle.event_log.proofs.CommitLaws.{law_of_commits}
use Rattle.event_log.proofs.law.law_of_commits.Goals as goal

pub returns : goal.returns
returns c = law_of_commits
