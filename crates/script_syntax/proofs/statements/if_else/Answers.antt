use Rattle.script_syntax.proofs.Rows.{if_else_tree}
use Rattle.script_syntax.proofs.statements.if_else.Goals as goal

pub returns : goal.returns
returns c = if_else_tree c.args.condition c.args.taken c.args.other
