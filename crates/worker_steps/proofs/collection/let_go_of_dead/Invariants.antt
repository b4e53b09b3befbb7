use Rattle.std.proofs.Common.{◌≡◌, drop}
use Rattle.protocol.specs.Holders.{lets_go_of_dead}
use Rattle.worker_steps.proofs.collection.let_go_of_dead.Given as goal

abbrev pub invariant-loop-hold : goal.invariant-loop-hold
invariant-loop-hold l = lets_go_of_dead l.here l.worker (drop l.hold-index l.hold-items) ≡ lets_go_of_dead l.initial.here l.worker l.hold-items
