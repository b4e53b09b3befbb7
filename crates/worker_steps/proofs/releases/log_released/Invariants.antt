use Rattle.std.proofs.Common.{◌≡◌, ◌-◌, map}
use Rattle.meaning.specs.Runs.{ids_from}
use Rattle.event_log.specs.Entries.{Released}
use Rattle.protocol.specs.Steps.{logs_all, own_id}
use Rattle.worker_steps.proofs.releases.log_released.Given as goal

-- logging those that are left ends as logging all
abbrev pub invariant-loop-serial : goal.invariant-loop-serial
invariant-loop-serial l =
    logs_all l.here (map Released (ids_from (own_id l.here l.serial) (l.end - l.serial)))
    ≡ logs_all l.initial.here (map Released (ids_from (own_id l.initial.here l.from) (l.end - l.from)))
