use Rattle.script_syntax.proofs.Rows.{if_alone_tree}
use Rattle.script_syntax.proofs.statements.if_alone.Goals as goal

pub returns : goal.returns
returns c = if_alone_tree c.args.condition c.args.taken
