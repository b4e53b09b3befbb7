use Rattle.std.proofs.Common.{refl, inl, inr, [], ◌∷◌, arith}
use Rattle.std.specs.Prelude.{codes}
use Rattle.meaning.specs.Meaning.{call_at}
use Rattle.meaning.specs.Births.{same_id, is_made_by}
use Rattle.meaning.specs.Examples.{value, object}
use Rattle.event_log.specs.Words.{same_attempt}
use Rattle.event_log.specs.Breaks.{breaks_from, breaks_of}
use Rattle.log_examples.specs.Logs.{number, given}
use Rattle.log_examples.specs.SeveralResults.{birth_of_two, part_in}
use Rattle.log_examples.proofs.SeveralResults.{content_is_second, end_settles_nothing, both_are_resolved}
use Rattle.log_examples.proofs.several.attempt_examples.Goals as goal

-- each by computing the contents of the call's attempt, what breaks it, and when it is settled
pub returns-clause-second_content : goal.returns-clause-second_content
unfolding same_id is_made_by same_attempt
returns-clause-second_content c = inr (record { part = part_in birth_of_two 1; born = refl; number = 0; contents = value 3 ∷ value 2 ∷ []; ended = (0, refl); content = refl })

pub returns-clause-no_other_content : goal.returns-clause-no_other_content
returns-clause-no_other_content c = content_is_second

pub returns-clause-whole : goal.returns-clause-whole
unfolding call_at same_id is_made_by same_attempt
returns-clause-whole c = record { no_fault = refl; gets = refl; prints = refl; outcome = refl }

pub returns-clause-answers_begin : goal.returns-clause-answers_begin
unfolding call_at same_id is_made_by same_attempt
returns-clause-answers_begin c = (refl, tt)

pub returns-clause-unbroken : goal.returns-clause-unbroken
unfolding same_id is_made_by same_attempt breaks_from breaks_of
returns-clause-unbroken c = refl

pub returns-clause-broken_by_either : goal.returns-clause-broken_by_either
unfolding same_id is_made_by same_attempt breaks_from breaks_of
returns-clause-broken_by_either c = refl

pub returns-clause-used_up : goal.returns-clause-used_up
unfolding same_id is_made_by same_attempt breaks_from breaks_of
returns-clause-used_up c = record { part = part_in birth_of_two 1; born = refl; function = codes "parts"; args = given (number 17) ∷ given (number 5) ∷ []; depth = 1; retries = 0; others = 1; task = refl; begun = refl; places = 24 ∷ []; all = refl; broken = (omega arith, (0, refl), tt) }

pub returns-clause-settled : goal.returns-clause-settled
unfolding same_id is_made_by same_attempt
returns-clause-settled c = inr (inr (record { part = part_in birth_of_two 1; born = refl; number = 0; accepted = (0, refl); final = inl refl }))

pub returns-clause-unsettled : goal.returns-clause-unsettled
returns-clause-unsettled c = end_settles_nothing

pub returns-clause-unresolved : goal.returns-clause-unresolved
unfolding same_id is_made_by same_attempt
returns-clause-unresolved c = (object 1 2, (1, refl), refl)

pub returns-clause-resolved : goal.returns-clause-resolved
returns-clause-resolved c = both_are_resolved
