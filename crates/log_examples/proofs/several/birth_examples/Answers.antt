use Rattle.std.proofs.Common.{refl}
use Rattle.meaning.specs.Meaning.{call_at}
use Rattle.meaning.specs.Births.{same_id, is_made_by}
use Rattle.event_log.specs.Words.{same_attempt}
use Rattle.log_examples.proofs.several.birth_examples.Goals as goal

-- each by computing what the words say of a log in which a call of two objects and a put are born
pub returns-clause-own : goal.returns-clause-own
unfolding call_at same_id is_made_by same_attempt
returns-clause-own c = refl

pub returns-clause-numbers : goal.returns-clause-numbers
unfolding call_at same_id is_made_by same_attempt
returns-clause-numbers c = refl

pub returns-clause-first_part : goal.returns-clause-first_part
unfolding call_at same_id is_made_by same_attempt
returns-clause-first_part c = refl

pub returns-clause-second_part : goal.returns-clause-second_part
unfolding call_at same_id is_made_by same_attempt
returns-clause-second_part c = refl

pub returns-clause-third_part : goal.returns-clause-third_part
unfolding call_at same_id is_made_by same_attempt
returns-clause-third_part c = refl

pub returns-clause-no_part : goal.returns-clause-no_part
unfolding call_at same_id is_made_by same_attempt
returns-clause-no_part c = refl

pub returns-clause-none_elsewhere : goal.returns-clause-none_elsewhere
unfolding call_at same_id is_made_by same_attempt
returns-clause-none_elsewhere c = refl

pub returns-clause-at_first : goal.returns-clause-at_first
unfolding call_at same_id is_made_by same_attempt
returns-clause-at_first c = refl

pub returns-clause-none_at_second : goal.returns-clause-none_at_second
unfolding call_at same_id is_made_by same_attempt
returns-clause-none_at_second c = refl

pub returns-clause-objects_of_birth : goal.returns-clause-objects_of_birth
unfolding call_at same_id is_made_by same_attempt
returns-clause-objects_of_birth c = refl

pub returns-clause-objects : goal.returns-clause-objects
unfolding call_at same_id is_made_by same_attempt
returns-clause-objects c = refl

pub returns-clause-none_of_second : goal.returns-clause-none_of_second
unfolding call_at same_id is_made_by same_attempt
returns-clause-none_of_second c = refl

pub returns-clause-next_of_owner : goal.returns-clause-next_of_owner
unfolding call_at same_id is_made_by same_attempt
returns-clause-next_of_owner c = refl

pub returns-clause-next_of_other : goal.returns-clause-next_of_other
unfolding call_at same_id is_made_by same_attempt
returns-clause-next_of_other c = refl

pub returns-clause-bearer_of_second : goal.returns-clause-bearer_of_second
unfolding call_at same_id is_made_by same_attempt
returns-clause-bearer_of_second c = refl

pub returns-clause-bearer_of_none : goal.returns-clause-bearer_of_none
unfolding call_at same_id is_made_by same_attempt
returns-clause-bearer_of_none c = refl

pub returns-clause-reads_first : goal.returns-clause-reads_first
unfolding call_at same_id is_made_by same_attempt
returns-clause-reads_first c = refl

pub returns-clause-reads_second : goal.returns-clause-reads_second
unfolding call_at same_id is_made_by same_attempt
returns-clause-reads_second c = refl

pub returns-clause-reads_third : goal.returns-clause-reads_third
unfolding call_at same_id is_made_by same_attempt
returns-clause-reads_third c = refl

pub returns-clause-reads_none : goal.returns-clause-reads_none
unfolding call_at same_id is_made_by same_attempt
returns-clause-reads_none c = refl

pub returns-clause-reads_trap : goal.returns-clause-reads_trap
unfolding call_at same_id is_made_by same_attempt
returns-clause-reads_trap c = (refl, tt)
