use Rattle.std.proofs.Common.{string_bytes, sym}
use Rattle.report_lines.specs.Main.{print_in}
use Rattle.report_lines.proofs.Said.{none_refused_more, states_more, text_more}
use Rattle.report_lines.proofs.noted.add_prints_and_note.Goals as goal

pub loop-entry-preserved : goal.loop-entry-preserved
loop-entry-preserved c = record {
  printed =
      text_more print_in c.args.log.now c.loop-entry.entry-index c.entry-item.result (string_bytes c.args.text.now) (string_bytes c.loop-entry.text) _
      c.loop-entry-test.true (sym c.entry-item.is) c.loop-entry.invariant.printed c.in_ok-note_entry.ensures.printed;
  states =
      states_more c.loop-entry.states _ c.args.log.now c.loop-entry.entry-index c.entry-item.result c.loop-entry-test.true (sym c.entry-item.is)
      c.loop-entry.invariant.states c.in_ok-note_entry.ensures.accepted c.in_ok-note_entry.ensures.ended c.in_ok-note_entry.ensures.faulted;
  refused =
      none_refused_more c.loop-entry.refused _ c.args.log.now c.loop-entry.entry-index c.entry-item.result c.loop-entry-test.true (sym c.entry-item.is)
      c.loop-entry.invariant.refused c.in_ok-note_entry.ensures.before c.in_ok-note_entry.ensures.refused;
}
