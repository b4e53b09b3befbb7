use Rattle.std.proofs.Common.{◌≡◌, drop}
use Rattle.script_check.specs.Trees.{exprs_of}
use Rattle.script_check.specs.Typings.{joined}
use Rattle.script_check.proofs.copy.+copies.Given as goal

abbrev pub invariant-copy_exprs-loop-expr : goal.invariant-copy_exprs-loop-expr
invariant-copy_exprs-loop-expr l = joined l.copies.items (exprs_of (drop l.expr-index l.exprs)) ≡ exprs_of l.exprs
