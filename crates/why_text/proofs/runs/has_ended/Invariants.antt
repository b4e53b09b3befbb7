use Rattle.std.proofs.Common.{◌≡◌, drop}
use Rattle.std.specs.List.{list_any}
use Rattle.why_text.specs.Runs.{is_end_of}
use Rattle.why_text.proofs.runs.has_ended.Given as goal

abbrev pub invariant-loop-entry : goal.invariant-loop-entry
invariant-loop-entry l =
    list_any (is_end_of l.attempt) l.log ≡ list_any (is_end_of l.attempt) (drop l.entry-index l.log)
