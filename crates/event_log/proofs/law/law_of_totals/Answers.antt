use Rattle.event_log.proofs.BookLaws.{law_of_totals}
use Rattle.event_log.proofs.law.law_of_totals.Goals as goal

pub returns : goal.returns
returns c = law_of_totals
