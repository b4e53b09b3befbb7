use Rattle.std.proofs.Common.{◌∙◌, sym}
use Rattle.borrow.proofs.Holding.{left_some, some_left}
use Rattle.borrow.proofs.holders.is_held.Goals as goal

pub returns-clause-someone : goal.returns-clause-someone
returns-clause-someone c =
    let x = c.args.object.now in
    let held = c.is_one_left.ensures in
    ((λ h. some_left x.removed x.added (sym held ∙ h)), (λ r. held ∙ left_some x.removed x.added r.0 r.1))
