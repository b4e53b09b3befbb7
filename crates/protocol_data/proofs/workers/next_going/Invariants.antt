use Rattle.std.proofs.Common.{◌≤◌}
use Rattle.protocol_data.specs.Going.{AreAtRest}
use Rattle.protocol_data.proofs.workers.next_going.Given as goal

abbrev pub invariant-loop-turn : goal.invariant-loop-turn
invariant-loop-turn l = (l.from ≤ l.place) × (l.turn ≤ l.place) × AreAtRest l.rows l.from l.place
