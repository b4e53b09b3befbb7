use Rattle.std.proofs.Common.{◌≡◌, ◌+◌, ◌++◌, take, drop, length}
use Rattle.frame_laws.specs.Compile.{block_code}
use Rattle.script_check.specs.Trees.{statement_of, statements_of, script_of}
use Rattle.frame_code.specs.Sizes.{stmt_size, block_size}
use Rattle.frame_code.specs.Views.{codes, names_of}
use Rattle.frame_code.proofs.statements.+statements.Given as goal

abbrev pub decreases-emit_statement : goal.decreases-emit_statement
decreases-emit_statement l = stmt_size (statement_of l.statement.now)

abbrev pub decreases-emit_choice : goal.decreases-emit_choice
decreases-emit_choice l = block_size (statements_of l.first.now) + block_size (statements_of l.second.now) + 1

abbrev pub decreases-emit_loop : goal.decreases-emit_loop
decreases-emit_loop l = block_size (statements_of l.body.now) + 1

abbrev pub decreases-emit_block : goal.decreases-emit_block
decreases-emit_block l = block_size (statements_of l.statements.now)

-- the code so far with what is left to write, and the names that were there before the block
abbrev pub invariant-emit_block-loop-statement : goal.invariant-emit_block-loop-statement
invariant-emit_block-loop-statement l = record {
  code : codes l.code.items ++ block_code (script_of l.script) (names_of l.names.items) (statements_of (drop l.statement-index l.statements))
      ≡ codes l.fn.code.items ++ block_code (script_of l.script) (names_of l.fn.names.items) (statements_of l.statements);
  names : take (length (names_of l.fn.names.items)) (names_of l.names.items) ≡ names_of l.fn.names.items;
}
