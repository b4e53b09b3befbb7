use Rattle.std.proofs.Common.{refl}
use Rattle.meaning.specs.Meaning.{call_at}
use Rattle.meaning.proofs.examples.replay_examples.Goals as goal

pub returns-clause-first_piece_of_main : goal.returns-clause-first_piece_of_main
unfolding call_at
returns-clause-first_piece_of_main c = refl

pub returns-clause-piece_of_the_call : goal.returns-clause-piece_of_the_call
unfolding call_at
returns-clause-piece_of_the_call c = refl

pub returns-clause-whole_of_main : goal.returns-clause-whole_of_main
unfolding call_at
returns-clause-whole_of_main c = refl

pub returns-clause-got_once : goal.returns-clause-got_once
unfolding call_at
returns-clause-got_once c = refl

pub returns-clause-got_again : goal.returns-clause-got_again
unfolding call_at
returns-clause-got_again c = refl
