use Rattle.std.proofs.Common.{◌≡◌, drop, map}
use Rattle.event_log.specs.Entries as logged
use Rattle.protocol.specs.Steps.{logs_all}
use Rattle.commit_steps.proofs.logged.log_prints.Given as goal

abbrev pub invariant-loop-value : goal.invariant-loop-value
invariant-loop-value l = logs_all l.here (map logged.Printed (drop l.value-index l.prints)) ≡ logs_all l.initial.here (map logged.Printed l.prints)
