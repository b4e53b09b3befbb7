use Rattle.script_syntax.proofs.Rows.{list_tree}
use Rattle.script_syntax.proofs.expressions.list.Goals as goal

pub returns : goal.returns
returns c = list_tree c.args.items
