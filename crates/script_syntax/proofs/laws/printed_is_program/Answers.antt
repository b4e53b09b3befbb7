use Rattle.script_syntax.proofs.Again.{printed_again}
use Rattle.script_syntax.proofs.laws.printed_is_program.Goals as goal

pub returns : goal.returns
returns c = printed_again
