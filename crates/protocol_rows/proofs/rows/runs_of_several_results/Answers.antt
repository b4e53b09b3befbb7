use Rattle.std.specs.Prelude.{refl}
use Rattle.meaning.specs.Births.{same_id}
use Rattle.event_log.specs.Words.{same_attempt}
use Rattle.values.specs.Cells.{is_small}
use Rattle.protocol_rows.proofs.rows.runs_of_several_results.Goals as goal

-- each row by computing: its events, one after the other, lead to the run that the row has
pub returns-clause-two_results : goal.returns-clause-two_results
unfolding same_id same_attempt is_small
returns-clause-two_results c = refl

pub returns-clause-result_lost : goal.returns-clause-result_lost
unfolding same_id same_attempt is_small
returns-clause-result_lost c = refl

pub returns-clause-result_remade : goal.returns-clause-result_remade
unfolding same_id same_attempt is_small
returns-clause-result_remade c = refl

pub returns-clause-result_kept : goal.returns-clause-result_kept
unfolding same_id same_attempt is_small
returns-clause-result_kept c = refl

pub returns-clause-result_there : goal.returns-clause-result_there
unfolding same_id same_attempt is_small
returns-clause-result_there c = refl

pub returns-clause-both_failed : goal.returns-clause-both_failed
unfolding same_id same_attempt is_small
returns-clause-both_failed c = refl

pub returns-clause-place_there : goal.returns-clause-place_there
unfolding same_id same_attempt is_small
returns-clause-place_there c = refl

pub returns-clause-place_missed : goal.returns-clause-place_missed
unfolding same_id same_attempt is_small
returns-clause-place_missed c = refl
