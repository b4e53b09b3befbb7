use Rattle.std.proofs.Common.{sym}
use Rattle.protocol_data.proofs.Shelving.{all_stay}
use Rattle.protocol_data.proofs.copies.take_here.Goals as goal

pub returns-then-is_outside-clause-rows : goal.returns-then-is_outside-clause-rows
returns-then-is_outside-clause-rows c = λ w. sym (all_stay _ c.args.shelf.now.rows c.args.object c.args.number w (c.is_outside.ensures c.if-is_outside.true))
