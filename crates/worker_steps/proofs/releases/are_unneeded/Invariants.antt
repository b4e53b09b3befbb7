use Rattle.std.proofs.Common.{◌≡◌, ◌-◌}
use Rattle.protocol.specs.Releases.{are_unneeded}
use Rattle.worker_steps.proofs.releases.are_unneeded.Given as goal

-- those so far are unneeded: those that are left decide
abbrev pub invariant-loop-serial : goal.invariant-loop-serial
invariant-loop-serial l = are_unneeded l.objects l.serial (l.end - l.serial) ≡ are_unneeded l.objects l.from (l.end - l.from)
