use Rattle.std.proofs.Common.{rules, ◌<◌, length}
use Rattle.owner_steps.proofs.Remaking.{one_made}
use Rattle.owner_steps.proofs.recovery.remake_all.Goals as goal

pub loop-serial-preserved : goal.loop-serial-preserved
loop-serial-preserved c =
    let xs = c.deref-serial-items.result.now in
    let left : c.loop-serial.serial-index < length xs = search rules in
    one_made c.loop-serial.here c.remake.new.here xs c.loop-serial.serial-index _ left c.in_ok-remake.ensures.done c.loop-serial.invariant.0 c.loop-serial.invariant.1
