use Rattle.std.specs.Prelude.{refl}
use Rattle.protocol_data.specs.of_meaning.Births.{same_id}
use Rattle.protocol_data.specs.of_event_log.Words.{same_attempt}
use Rattle.protocol.proofs.examples.examples.Goals as goal

-- each by computing small tables through one rule
pub returns-clause-stores : goal.returns-clause-stores
unfolding same_id same_attempt
returns-clause-stores c =
    record {
      last_used_first = refl;
      gone = refl;
      there = refl;
      found = refl;
      of_another_number = refl;
      pinned = refl;
      alone = refl;
      not_evicted = refl;
      lost = refl;
      nothing_to_lose = refl;
    }

pub returns-clause-holders : goal.returns-clause-holders
unfolding same_id same_attempt
returns-clause-holders c =
    record { by_none = refl; by_one = refl; no_more = refl; not_revived = refl; removed_first = refl; by_another = refl }

pub returns-clause-plans : goal.returns-clause-plans
unfolding same_id same_attempt
returns-clause-plans c =
    record {
      alone = refl;
      can_be_made = refl;
      with_arguments = refl;
      up_to_it = refl;
      put_lost = refl;
      first_in_birth_order = refl;
      retries_used = refl;
    }

pub returns-clause-releases : goal.returns-clause-releases
unfolding same_id same_attempt
returns-clause-releases c =
    record {
      one_place = refl;
      a_place_that_was_missed = refl;
      a_place_of_an_earlier_content = refl;
      none_for_what_is_kept = refl;
      back_again = refl;
    }

pub returns-clause-asks : goal.returns-clause-asks
unfolding same_id same_attempt
returns-clause-asks c =
    record {
      opened = refl;
      answers = refl;
      granted = refl;
      answered_first = refl;
      still_queued = refl;
      idle_again = refl;
      not_by_another = refl;
    }

pub returns-clause-handed : goal.returns-clause-handed
unfolding same_id same_attempt
returns-clause-handed c = record { nothing = refl; of_another = refl }

pub returns-clause-death : goal.returns-clause-death
unfolding same_id same_attempt
returns-clause-death c = refl
