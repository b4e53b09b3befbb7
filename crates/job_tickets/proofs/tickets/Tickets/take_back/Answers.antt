use Rattle.std.proofs.Common.{rules, sym, ap, ◌∙◌}
use Rattle.job_tickets.proofs.Moves.{takes_back, takes_in_as}
use Rattle.job_tickets.proofs.tickets.Tickets.take_back.Goals as goal

pub join_pass-requires : goal.join_pass-requires
join_pass-requires g c =
    let i = c.self.invariant in
    let t = c.ticket.invariant in
    (search rules, (search rules, ((i.1 ∙ sym i.0, t.0 ∙ sym i.1, t.1), takes_in_as _ _ _ _ _ i.2)))

pub load_as-requires : goal.load_as-requires
load_as-requires g c =
    let i = c.self.invariant in
    let j = c.join_pass.ensures in
    (search rules, (search rules, (j.0.0 ∙ i.1 ∙ sym i.0, takes_back _ _ (ap (λ v. v.keeps) j.1 ∙ ap (λ v. v.keeps) i.2))))
