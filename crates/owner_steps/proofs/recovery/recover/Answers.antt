use Rattle.owner_steps.proofs.Remaking.{can_be_remade}
use Rattle.owner_steps.proofs.recovery.recover.Goals as goal

pub remake_all-requires : goal.remake_all-requires
remake_all-requires c = can_be_remade c.plans_are_least_closed_sets.ensures c.args.here.now c.args.object c.in-Ok.plan c.in-Ok.ensures.decision
