use Rattle.meaning_laws.proofs.Headline.{main_begins}
use Rattle.meaning_laws.proofs.law.main_begins_the_serial_run.Goals as goal

pub returns : goal.returns
returns c = main_begins
