use Rattle.std.proofs.Common.{◌≡◌, [], Option, drop}
use Rattle.event_log.specs.Entries.{Event}
use Rattle.report_lines.specs.Refusals.{refused_lines}
use Rattle.report_lines.proofs.refusals.none_refused.Given as goal

-- what was passed over has no line, if the rest has none
abbrev pub invariant-loop-entry : goal.invariant-loop-entry
invariant-loop-entry l = ((last : Option Event) → refused_lines last (drop l.entry-index l.log) ≡ []) → (last : Option Event) → refused_lines last l.log ≡ []
