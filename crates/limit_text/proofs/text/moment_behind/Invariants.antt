use Rattle.std.proofs.Common.{◌≡◌, ◌≤◌, drop}
use Rattle.why_text.specs.Moments.{first_moment, moment_of}
use Rattle.limit_text.specs.Text.{moment_behind}
use Rattle.limit_text.proofs.text.moment_behind.Given as goal

-- from this moment the rest of the log leads to the same one; and no more events came than entries
abbrev pub invariant-loop-entry : goal.invariant-loop-entry
invariant-loop-entry l = record {
  same : moment_behind l.lines (moment_of l.moment) (drop l.entry-index l.log) ≡ moment_behind l.lines first_moment l.log;
  counted : l.moment.number ≤ l.entry-index;
}
