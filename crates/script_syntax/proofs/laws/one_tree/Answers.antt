use Rattle.script_syntax.proofs.Parses.{same_tree}
use Rattle.script_syntax.proofs.laws.one_tree.Goals as goal

pub returns : goal.returns
returns c = same_tree
