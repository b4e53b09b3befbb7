use Rattle.std.proofs.Common.{◌≡◌, ◌++◌, [], Option, drop, false, string_bytes, take}
use Rattle.std.specs.List.{flat_map}
use Rattle.event_log.specs.Entries.{Event}
use Rattle.report_lines.specs.Attempts.{AreStatesOf}
use Rattle.report_lines.specs.Main.{print_in}
use Rattle.report_lines.specs.Refusals.{refused_lines}
use Rattle.report_lines.proofs.noted.add_prints_and_note.Given as goal

-- what was passed over was printed and noted; it has no refusal, if none was noted
abbrev pub invariant-loop-entry : goal.invariant-loop-entry
invariant-loop-entry l = record {
  printed : string_bytes l.text ≡ string_bytes l.fn.text ++ flat_map print_in (take l.entry-index l.log);
  states : AreStatesOf l.states (take l.entry-index l.log);
  refused : l.refused ≡ false → ((last : Option Event) → refused_lines last (drop l.entry-index l.log) ≡ []) → (last : Option Event) → refused_lines last l.log ≡ [];
}
