use Rattle.std.proofs.Common.{◌≡◌, ◌++◌, None, string_bytes, drop}
use Rattle.report_lines.specs.Refusals.{refused_lines}
use Rattle.report_lines.proofs.refusals.add_refusals.Given as goal

-- the text so far with the lines of the rest, whose first refusal is of the last event so far
abbrev pub invariant-loop-entry : goal.invariant-loop-entry
invariant-loop-entry l = string_bytes l.text ++ refused_lines l.last (drop l.entry-index l.log) ≡ string_bytes l.fn.text ++ refused_lines None l.log
