use Rattle.protocol_data.proofs.Shelving.{none_here}
use Rattle.protocol_data.proofs.copies.find_here.Goals as goal

pub returns-then-is_outside : goal.returns-then-is_outside
returns-then-is_outside c = none_here _ c.args.shelf.now.rows c.args.object c.args.number c.requires (c.is_outside.ensures c.if-is_outside.true)
