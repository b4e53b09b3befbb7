use Rattle.std.proofs.Common.{ap}
use Rattle.borrow.proofs.Holding.{added_by, late_by}
use Rattle.borrow.proofs.holders.add.Goals as goal

pub returns-clause-added : goal.returns-clause-added
returns-clause-added c = λ e. added_by _ c.args.object.now c.args.holder e (ap (λ ids. record c.args.object.now { added = ids }) c.in_ok-add_object.ensures.ok)

pub returns-clause-late : goal.returns-clause-late
returns-clause-late c = λ r e. late_by _ c.args.object.now c.args.holder e r (ap (λ ids. record c.args.object.now { added = ids }) c.in_ok-add_object.ensures.ok)
