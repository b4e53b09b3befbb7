use Rattle.std.proofs.Common.{◌≡◌, ◌++◌, string_bytes}
use Rattle.report_text.specs.of_report_lines.Attempts.{AreStatesOf}
use Rattle.log_words.specs.Index.{IsIndexOf}
use Rattle.summary_text.specs.Below.{below}
use Rattle.summary_text.specs.Functions.{function_at}
use Rattle.summary_text.proofs.functions.write_others.Given as goal

abbrev pub invariant-loop-place : goal.invariant-loop-place
invariant-loop-place l =
    IsIndexOf l.index l.log → AreStatesOf l.states l.log →
    string_bytes l.text ≡ string_bytes l.fn.text ++ below (function_at l.log) l.place
