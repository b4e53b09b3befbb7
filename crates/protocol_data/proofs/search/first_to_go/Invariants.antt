use Rattle.std.proofs.Common.{◌≤◌}
use Rattle.indexmap.specs.IndexMap.{values}
use Rattle.protocol_data.specs.Unneeded.{AllStay}
use Rattle.protocol_data.proofs.search.first_to_go.Given as goal

-- all before the place stay, and the place goes on with each turn
abbrev pub invariant-loop-turn : goal.invariant-loop-turn
invariant-loop-turn l = AllStay (values l.rows) l.from l.place l.going_on × (l.from ≤ l.place) × (l.turn ≤ l.place)
