use Rattle.std.proofs.Common.{rules, arith}
use Rattle.event_reading.proofs.Saying.{settle_length}
use Rattle.event_reading.proofs.next_line.said_line.Goals as goal

pub returns-else-line-room-clause-taken : goal.returns-else-line-room-clause-taken
returns-else-line-room-clause-taken c =
    let e = settle_length c.args.line.now c.in-Some-Settle.workers (search rules) in
    let l = c.if-line-room.false in
    omega (arith, e, l)
