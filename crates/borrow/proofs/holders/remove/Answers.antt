use Rattle.std.proofs.Common.{ap}
use Rattle.borrow.proofs.Holding.{removed_by}
use Rattle.borrow.proofs.holders.remove.Goals as goal

pub returns-clause-removed : goal.returns-clause-removed
returns-clause-removed c = λ e. removed_by _ c.args.object.now c.args.holder e (ap (λ ids. record c.args.object.now { removed = ids }) c.in_ok-add_object.ensures.ok)
