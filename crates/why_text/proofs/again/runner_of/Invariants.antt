use Rattle.std.proofs.Common.{◌≡◌, drop}
use Rattle.why_text.specs.Again.{runner_of}
use Rattle.why_text.proofs.again.runner_of.Given as goal

abbrev pub invariant-loop-entry : goal.invariant-loop-entry
invariant-loop-entry l = runner_of l.log l.attempt ≡ runner_of (drop l.entry-index l.log) l.attempt
