use Rattle.std.proofs.Common.{refl}
use Rattle.meaning.specs.Values.{Val, Named, Put}
use Rattle.meaning.specs.Births.{same_id, is_made_by}
use Rattle.meaning.specs.Examples.{object}
use Rattle.event_log.specs.Entries.{main_attempt}
use Rattle.event_log.specs.Words.{same_attempt}
use Rattle.event_log.specs.Events.{accepted_events, is_live}
use Rattle.event_log.specs.Holding.{is_one_of, anchored, InBirth, InContents, ByEnd, Bore, ByAttempt, ByBirth, ByContents}
use Rattle.log_examples.specs.Logs.{first_of, number}
use Rattle.log_examples.specs.SeveralResults.{dividing_apart, part_in, pairing, birth_of_pair, references}
use Rattle.log_examples.proofs.Unheld.{may_be_held, not_held}
use Rattle.log_examples.proofs.SeveralResults.{first_is_released}
use Rattle.log_examples.proofs.several.holding_examples.Goals as goal

-- each by computing what a call of two objects holds, and until when
pub returns-clause-ids : goal.returns-clause-ids
returns-clause-ids c = refl

pub returns-clause-first_has_both : goal.returns-clause-first_has_both
unfolding same_id is_made_by same_attempt
returns-clause-first_has_both c = InContents (part_in birth_of_pair 0) 0 references refl (0, refl) (1, refl)

pub returns-clause-second_has_both : goal.returns-clause-second_has_both
unfolding same_id is_made_by same_attempt
returns-clause-second_has_both c = InContents (part_in birth_of_pair 1) 0 references refl (0, refl) (0, refl)

pub returns-clause-second_has_argument : goal.returns-clause-second_has_argument
unfolding same_id is_made_by same_attempt
returns-clause-second_has_argument c = InBirth (part_in birth_of_pair 1) refl (0, refl)

pub returns-clause-second_is_from_argument : goal.returns-clause-second_is_from_argument
unfolding same_id is_made_by same_attempt
returns-clause-second_is_from_argument c = ((part_in birth_of_pair 1, refl, (0, refl)), refl)

pub returns-clause-makes_second : goal.returns-clause-makes_second
unfolding same_id is_made_by same_attempt
returns-clause-makes_second c = ByEnd (part_in birth_of_pair 1) references (Val (Named (object 2 2))) refl refl (19, refl) refl

pub returns-clause-bearer_holds : goal.returns-clause-bearer_holds
unfolding same_id is_made_by same_attempt accepted_events is_live is_one_of anchored may_be_held
returns-clause-bearer_holds c = ByAttempt main_attempt 1 (1, refl) refl refl refl (Bore main_attempt (object 1 2) (object 1 1) dividing_apart (4, refl) refl)

pub returns-clause-none_is : goal.returns-clause-none_is
unfolding same_id is_made_by same_attempt
returns-clause-none_is c = refl

pub returns-clause-one_is : goal.returns-clause-one_is
unfolding same_id is_made_by same_attempt
returns-clause-one_is c = refl

pub returns-clause-both_are : goal.returns-clause-both_are
unfolding same_id is_made_by same_attempt
returns-clause-both_are c = refl

pub returns-clause-content_is_held : goal.returns-clause-content_is_held
unfolding same_id is_made_by same_attempt accepted_events is_live is_one_of anchored may_be_held
returns-clause-content_is_held c = ByContents (first_of (object 1 2)) references (19, refl) refl refl refl (0, refl) (Bore (first_of (object 1 2)) (object 2 1) (object 2 1) (Put (number 6)) (17, refl) refl)

pub returns-clause-argument_is_held : goal.returns-clause-argument_is_held
unfolding same_id is_made_by same_attempt accepted_events is_live is_one_of anchored may_be_held
returns-clause-argument_is_held c = ByBirth (object 1 2) main_attempt pairing (5, refl) refl refl (0, refl) (Bore main_attempt (object 1 1) (object 1 1) (Put (number 6)) (4, refl) refl)

pub returns-clause-content_is_free : goal.returns-clause-content_is_free
unfolding same_id is_made_by same_attempt accepted_events is_live is_one_of anchored may_be_held
returns-clause-content_is_free c = not_held refl

pub returns-clause-argument_is_free : goal.returns-clause-argument_is_free
unfolding same_id is_made_by same_attempt accepted_events is_live is_one_of anchored may_be_held
returns-clause-argument_is_free c = not_held refl

pub returns-clause-unreleased : goal.returns-clause-unreleased
unfolding same_id is_made_by same_attempt
returns-clause-unreleased c = (refl, (refl, tt))

pub returns-clause-not_unreleased : goal.returns-clause-not_unreleased
returns-clause-not_unreleased c = first_is_released
