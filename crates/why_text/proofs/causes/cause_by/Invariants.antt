use Rattle.std.proofs.Common.{◌≡◌, drop}
use Rattle.why_text.specs.Text.{cause_by}
use Rattle.why_text.proofs.causes.cause_by.Given as goal

abbrev pub invariant-loop-entry : goal.invariant-loop-entry
invariant-loop-entry l = cause_by l.log l.object l.task ≡ cause_by (drop l.entry-index l.log) l.object l.task
