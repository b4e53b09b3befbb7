use Rattle.std.proofs.Common.{◌≡◌, drop}
use Rattle.protocol.specs.Ticks.{sends_holds}
use Rattle.worker_acts.proofs.ticks.send_holds.Given as goal

abbrev pub invariant-loop-hold : goal.invariant-loop-hold
invariant-loop-hold l = sends_holds l.here (drop l.hold-index l.hold-items) ≡ sends_holds l.initial.here l.hold-items
