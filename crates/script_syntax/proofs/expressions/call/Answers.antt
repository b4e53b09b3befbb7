use Rattle.script_syntax.proofs.Rows.{call_tree}
use Rattle.script_syntax.proofs.expressions.call.Goals as goal

pub returns : goal.returns
returns c = call_tree c.args.function c.args.arguments
