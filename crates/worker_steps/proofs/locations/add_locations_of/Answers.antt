use Rattle.std.proofs.Common.{sym, ◌∙◌}
use Rattle.worker_steps.proofs.Locating.{none_located}
use Rattle.worker_steps.proofs.locations.add_locations_of.Goals as goal

pub returns-then-not-may_locate-clause-done : goal.returns-then-not-may_locate-clause-done
returns-then-not-may_locate-clause-done c = none_located c.args.here.now c.args.object c.args.number c.args.nodes.now (sym c.may_locate.ensures ∙ c.if-not-may_locate.true)
