use Rattle.meaning_laws.proofs.Knowing.{attempts_give_only_known}
use Rattle.meaning_laws.proofs.law.attempts_give_only_what_they_know.Goals as goal

pub returns : goal.returns
returns c = attempts_give_only_known
