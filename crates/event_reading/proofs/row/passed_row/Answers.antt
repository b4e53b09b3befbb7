use Rattle.event_reading.proofs.Going.{passed_feed, passed_end}
use Rattle.event_reading.proofs.row.passed_row.Goals as goal

pub returns-in-Feed-clause-passed : goal.returns-in-Feed-clause-passed
returns-in-Feed-clause-passed g c = λ most. passed_feed most _ _ c.in_ok-pass_over.field-0 c.in-Feed.is c.in_ok-pass_over.ensures.passed

pub returns-in-Nothing-clause-passed : goal.returns-in-Nothing-clause-passed
returns-in-Nothing-clause-passed g c = λ most. passed_end most _ _ c.in_ok-pass_over.field-0 c.in-Nothing.is c.in_ok-pass_over.ensures.passed
