use Rattle.std.proofs.Common.{◌≡◌, ◌-◌}
use Rattle.protocol.specs.Releases.{marks_released}
use Rattle.worker_steps.proofs.releases.mark_released.Given as goal

abbrev pub invariant-loop-serial : goal.invariant-loop-serial
invariant-loop-serial l = marks_released l.here l.serial (l.end - l.serial) ≡ marks_released l.initial.here l.from (l.end - l.from)
