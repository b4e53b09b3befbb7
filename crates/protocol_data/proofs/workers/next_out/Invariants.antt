use Rattle.std.proofs.Common.{◌≤◌}
use Rattle.protocol_data.specs.Going.{HaveNoneOut}
use Rattle.protocol_data.proofs.workers.next_out.Given as goal

abbrev pub invariant-loop-turn : goal.invariant-loop-turn
invariant-loop-turn l = (l.from ≤ l.place) × (l.turn ≤ l.place) × HaveNoneOut l.rows l.from l.place
