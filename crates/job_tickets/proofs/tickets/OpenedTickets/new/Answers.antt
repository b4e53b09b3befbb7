use Rattle.std.proofs.Common.{rules}
use Rattle.job_tickets.proofs.Moves.{begins}
use Rattle.job_tickets.proofs.tickets.OpenedTickets.new.Goals as goal

pub ruled-requires : goal.ruled-requires
ruled-requires g c = (search rules, (search rules, begins _))
