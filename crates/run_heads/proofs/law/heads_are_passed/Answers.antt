use Rattle.run_heads.proofs.Passing.{passed_over}
use Rattle.run_heads.proofs.law.heads_are_passed.Goals as goal

pub returns : goal.returns
returns c nodes slots threads script bytes events h k l file = passed_over nodes slots threads script bytes events h k l file
