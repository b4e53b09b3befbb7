use Rattle.std.proofs.Common.{◌≡◌, drop}
use Rattle.protocol.specs.Recovery.{remakes}
use Rattle.owner_steps.specs.Made.{AllMayBeMade}
use Rattle.owner_steps.proofs.recovery.remake_all.Given as goal

-- remaking what is left ends as remaking all, and each of these may be made
abbrev pub invariant-loop-serial : goal.invariant-loop-serial
invariant-loop-serial l =
    (remakes l.here (drop l.serial-index l.serial-items) ≡ remakes l.initial.here l.serial-items)
    × AllMayBeMade l.here (drop l.serial-index l.serial-items)
