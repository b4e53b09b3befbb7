use Rattle.event_log.proofs.ClaimLaws.{law_of_claims}
use Rattle.event_log.proofs.law.law_of_claims.Goals as goal

pub returns : goal.returns
returns c = law_of_claims
