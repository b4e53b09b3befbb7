use Rattle.std.proofs.Common.{◌≤◌, ◌+◌, ◌*◌, length}
use Rattle.script_tokens.specs.declared.token.Mark.TheVariants as marks
use Rattle.script_tokens.specs.Views.{tokens_of}
use Rattle.script_syntax.specs.Reading.{unless, statement_at, statements}
use Rattle.script_syntax.specs.Views.{statements_of}
use Rattle.script_syntax.proofs.Loops.{ChainSoFar, and_later}
use Rattle.script_syntax.proofs.statements.+statements.Given as goal

abbrev pub decreases-block : goal.decreases-block
decreases-block l = l.levels * 8 + 1

abbrev pub decreases-branches : goal.decreases-branches
decreases-branches l = l.levels * 8 + 2

abbrev pub decreases-repeated : goal.decreases-repeated
decreases-repeated l = l.levels * 8 + 2

abbrev pub decreases-statement : goal.decreases-statement
decreases-statement l = l.levels * 8 + 3

abbrev pub decreases-statements : goal.decreases-statements
decreases-statements l = l.levels * 8 + 4

abbrev pub invariant-statements-loop-more : goal.invariant-statements-loop-more
invariant-statements-loop-more l = record { so_far : ChainSoFar (unless marks.CloseBrace) (statement_at l.levels) and_later (statements_of l.statements.items) l.rest (statements (statement_at l.levels) (tokens_of l.fn.tokens)); no_longer : length l.rest ≤ length l.fn.tokens }

abbrev pub decreases-statements-loop-more : goal.decreases-statements-loop-more
decreases-statements-loop-more l = length l.rest
