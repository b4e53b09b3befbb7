use Rattle.std.proofs.Common.{◌≡◌, drop}
use Rattle.protocol.specs.Steps.{logs_all}
use Rattle.commit_steps.specs.Logged.{born}
use Rattle.commit_steps.proofs.logged.log_births.Given as goal

-- logging the births that are left ends as logging all
abbrev pub invariant-loop-spec : goal.invariant-loop-spec
invariant-loop-spec l = logs_all l.here (born l.attempt l.object (drop l.spec-index l.births)) ≡ logs_all l.initial.here (born l.attempt l.fn.first l.births)
