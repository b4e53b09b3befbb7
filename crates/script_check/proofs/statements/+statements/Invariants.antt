use Rattle.std.proofs.Common.{◌≡◌, ◌+◌, drop}
use Rattle.script_syntax.specs.Views.{program_of, statement_of as parsed_statement, statements_of as parsed_statements, function_of as parsed_function}
use Rattle.script_check.specs.Sizes.{stmt_size, block_size, other_size}
use Rattle.script_check.specs.Branches.{other_of}
use Rattle.script_check.specs.Scopes.{context_of}
use Rattle.script_check.specs.Typings.{onto_steps}
use Rattle.script_check.specs.Inference.{steps_of}
use Rattle.script_check.proofs.statements.+statements.Given as goal

abbrev pub decreases-check_statement : goal.decreases-check_statement
decreases-check_statement l = stmt_size (parsed_statement l.statement.now)

abbrev pub decreases-check_block : goal.decreases-check_block
decreases-check_block l = block_size (parsed_statements l.statements.now) + 2

abbrev pub decreases-check_turn : goal.decreases-check_turn
decreases-check_turn l = block_size (parsed_statements l.statements.now) + 2

abbrev pub decreases-check_statements : goal.decreases-check_statements
decreases-check_statements l = block_size (parsed_statements l.statements.now) + 1

abbrev pub invariant-check_statements-loop-statement : goal.invariant-check_statements-loop-statement
invariant-check_statements-loop-statement l =
    onto_steps l.checked.items (steps_of (program_of l.functions) (parsed_function l.function) (parsed_statements (drop l.statement-index l.statements)) (context_of l.scope.items))
    ≡ steps_of (program_of l.functions) (parsed_function l.function) (parsed_statements l.statements) (context_of l.fn.scope.items)

abbrev pub decreases-check_else : goal.decreases-check_else
decreases-check_else l = other_size (other_of l.second.now) + 3
