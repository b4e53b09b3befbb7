use Rattle.std.proofs.Common.{sym}
use Rattle.report_lines.proofs.Said.{states_more}
use Rattle.report_lines.proofs.attempts.AttemptStates.of.Goals as goal

pub loop-entry-preserved : goal.loop-entry-preserved
loop-entry-preserved c =
    states_more c.loop-entry.states _ c.args.log.now c.loop-entry.entry-index c.entry-item.result c.loop-entry-test.true (sym c.entry-item.is)
    c.loop-entry.invariant c.in_ok-note.ensures.accepted c.in_ok-note.ensures.ended c.in_ok-note.ensures.faulted
