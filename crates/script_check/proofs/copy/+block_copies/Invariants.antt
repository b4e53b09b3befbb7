use Rattle.std.proofs.Common.{◌≡◌, drop}
use Rattle.script_check.specs.Trees.{statements_of}
use Rattle.script_check.specs.Typings.{joined_steps}
use Rattle.script_check.proofs.copy.+block_copies.Given as goal

abbrev pub invariant-copy_block-loop-statement : goal.invariant-copy_block-loop-statement
invariant-copy_block-loop-statement l = joined_steps l.copies.items (statements_of (drop l.statement-index l.statements)) ≡ statements_of l.statements
