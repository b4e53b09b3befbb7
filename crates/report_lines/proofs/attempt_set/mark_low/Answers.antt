use Rattle.std.proofs.Common.{◌||◌, ◌==◌, ap, ◌∙◌}
use Rattle.report_lines.specs.Sets.{is_set}
use Rattle.report_lines.proofs.Marks.{low_marked, low_serial}
use Rattle.report_lines.proofs.Said.{on_ok}
use Rattle.report_lines.proofs.attempt_set.mark_low.Goals as goal

pub returns-clause-done : goal.returns-clause-done
returns-clause-done c =
    on_ok c.set_in.result
    (λ h. low_marked c.args.lows.now c.set_in.new.row c.args.object (low_serial c.args.object c.requires)
    (λ n. h n ∙ ap (λ p. is_set c.args.lows.now n || (n == p)) c.low_place.ensures))
    c.set_in.ensures.done
