use Rattle.std.proofs.Common.{◌+◌, ◌*◌}
use Rattle.refusal_reasons.proofs.statements.+statements.Given as goal

abbrev pub decreases-check_statement : goal.decreases-check_statement
decreases-check_statement l = 2 * l.levels

abbrev pub decreases-check_block : goal.decreases-check_block
decreases-check_block l = 2 * l.levels + 1
