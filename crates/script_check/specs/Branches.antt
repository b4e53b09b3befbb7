-- An if with or without an else.
use Rattle.std.specs.Prelude.{Option, Some, None}
use Rattle.script_syntax.specs.Trees as parsed
use Rattle.script_syntax.specs.Views.{statements_of}
use Rattle.script_syntax.specs.declared.tree.Block.{Block}

abbrev pub other_of : Option Block → Option parsed.Block
other_of None = None
other_of (Some b) = Some (statements_of b.statements.items)

abbrev pub branch : parsed.Expr → parsed.Block → Option parsed.Block → parsed.Stmt
branch e a None = parsed.If e a
branch e a (Some b) = parsed.IfElse e a b
