use Rattle.script_syntax.proofs.Rows.{remote_tree}
use Rattle.script_syntax.proofs.expressions.remote.Goals as goal

pub returns : goal.returns
returns c = remote_tree c.args.retries c.args.function c.args.arguments
