-- One event more leads to what comes of it.
use Rattle.std.proofs.Common.{suc, refl}
use Rattle.run_paths.specs.Paths.{ComesIn, NoneLead, OneMoreLeads}

pub none_lead : NoneLead
unfolding ComesIn
none_lead script first = (0, refl)

pub one_more_leads : OneMoreLeads
unfolding ComesIn
one_more_leads script first before after e seat done told h is_true answers = (suc h.0, (before, e, seat, done, told, h.1, is_true, answers))
