use Rattle.std.proofs.Common.{◌≤◌}
use Rattle.flags.specs.Blocks.{AreDown}
use Rattle.flags.proofs.blocks.next_up.Given as goal

abbrev pub invariant-loop-turn : goal.invariant-loop-turn
invariant-loop-turn l = (l.from ≤ l.place) × (l.turn ≤ l.place) × AreDown l.flags l.from l.place
