use Rattle.std.proofs.Common.{take}
use Rattle.report_lines.specs.Attempts.{AreStatesOf}
use Rattle.report_lines.proofs.attempts.AttemptStates.of.Given as goal

abbrev pub invariant-loop-entry : goal.invariant-loop-entry
invariant-loop-entry l = AreStatesOf l.states (take l.entry-index l.log)
