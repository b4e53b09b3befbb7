use Rattle.std.proofs.Common.{◌≡◌, ◌+◌, ◌≤◌, drop}
use Rattle.log_words.specs.Index.{IsIndexOf}
use Rattle.report_text.specs.of_report_lines.Attempts.{AreStatesOf}
use Rattle.summary_text.specs.Columns.{column_count}
use Rattle.summary_text.proofs.columns.column_count.Given as goal

abbrev pub invariant-loop-entry : goal.invariant-loop-entry
invariant-loop-entry l = record {
  found : IsIndexOf l.index l.log → AreStatesOf l.states l.log → l.count + column_count l.log l.column l.function (drop l.entry-index l.log) ≡ column_count l.log l.column l.function l.log;
  few : l.count ≤ l.entry-index;
}
