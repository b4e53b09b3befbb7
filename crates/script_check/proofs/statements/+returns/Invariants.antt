use Rattle.std.proofs.Common.{◌≡◌, ◌+◌, drop}
use Rattle.script_syntax.specs.Views.{statement_of as parsed_statement, statements_of as parsed_statements}
use Rattle.script_check.specs.Sizes.{stmt_size, block_size, other_size}
use Rattle.script_check.specs.Branches.{other_of}
use Rattle.script_check.specs.Inference.{block_returns}
use Rattle.script_check.proofs.statements.+returns.Given as goal

abbrev pub decreases-returns : goal.decreases-returns
decreases-returns l = stmt_size (parsed_statement l.statement.now)

abbrev pub decreases-block_returns : goal.decreases-block_returns
decreases-block_returns l = block_size (parsed_statements l.statements.now) + 1

abbrev pub invariant-block_returns-loop-statement : goal.invariant-block_returns-loop-statement
invariant-block_returns-loop-statement l = block_returns (parsed_statements (drop l.statement-index l.statements)) ≡ block_returns (parsed_statements l.statements)

abbrev pub decreases-else_returns : goal.decreases-else_returns
decreases-else_returns l = other_size (other_of l.second.now) + 3
