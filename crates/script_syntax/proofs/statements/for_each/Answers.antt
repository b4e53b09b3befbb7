use Rattle.script_syntax.proofs.Rows.{for_each_tree}
use Rattle.script_syntax.proofs.statements.for_each.Goals as goal

pub returns : goal.returns
returns c = for_each_tree c.args.name c.args.first c.args.last c.args.body
