use Rattle.report_lines.proofs.Marks.{row_kept_in, row_written_in}
use Rattle.report_lines.proofs.Said.{on_err, on_ok}
use Rattle.report_lines.proofs.attempt_set.mark_at.Goals as goal

pub returns-clause-done : goal.returns-clause-done
returns-clause-done c = on_ok c.set_in.result (λ h i n. row_written_in _ _ _ i n _ _ _ _ c.rows.view_is c.requires.owner c.index_mut-row.ensures.value h) c.set_in.ensures.done

pub returns-clause-err : goal.returns-clause-err
returns-clause-err c = on_err c.set_in.result (λ h i n. row_kept_in _ _ _ i n _ _ _ c.rows.view_is c.requires.owner c.index_mut-row.ensures.value h) c.set_in.ensures.err
