use Rattle.std.proofs.Common.{rules, sym, ◌∙◌}
use Rattle.job_tickets.proofs.Moves.{gives_as, hands}
use Rattle.job_tickets.proofs.tickets.Tickets.give_as.Goals as goal

pub load_as-requires : goal.load_as-requires
load_as-requires g c =
    let i = c.self.invariant in
    (search rules, (search rules, (i.1 ∙ sym i.0, gives_as _ _ _ _ _ i.2 c.requires.named)))

pub split_pass-requires : goal.split_pass-requires
split_pass-requires g c =
    let i = c.self.invariant in
    (search rules, (search rules, (c.load_as.ensures.cell.0 ∙ i.1 ∙ sym i.0, hands _ _)))
