use Rattle.std.specs.Prelude.{Some}
use Rattle.job_tickets.proofs.tickets.Tickets.give.Given as goal

abbrev pub ghosts-give_as : goal.ghosts-give_as
ghosts-give_as g a = record { of = Some a.of.now }
