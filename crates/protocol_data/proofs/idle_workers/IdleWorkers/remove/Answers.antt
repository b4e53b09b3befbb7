use Rattle.std.proofs.Common.{sym, subst, ap, ◌∙◌}
use Rattle.std.specs.Prelude.{not, ◌==◌}
use Rattle.std.specs.List.{filter}
use Rattle.protocol_data.specs.Idle.{AreNoted}
use Rattle.protocol_data.proofs.Idle.{noted_others, unmarked_stay}
use Rattle.protocol_data.proofs.idle_workers.IdleWorkers.remove.Goals as goal

pub returns-then-not-may_be_listed : goal.returns-then-not-may_be_listed
returns-then-not-may_be_listed c =
    let stay = unmarked_stay c.self.inside.marks c.self.inside.rows c.args.worker c.self.invariant (sym c.may_be_listed.ensures ∙ c.if-not-may_be_listed.true) in
    sym (ap (filter (λ v. not (v == c.args.worker))) (sym c.self.view_is) ∙ stay ∙ c.self.view_is)

pub invariant_of-self : goal.invariant_of-self
invariant_of-self c =
    subst (AreNoted c.unmark.new.marks) (sym c.take_out.ensures)
    (noted_others c.self.inside.marks c.unmark.new.marks c.self.inside.rows c.args.worker c.unmark.ensures c.self.invariant)
