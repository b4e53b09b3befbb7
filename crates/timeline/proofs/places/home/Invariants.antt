use Rattle.std.proofs.Common.{◌≡◌, drop}
use Rattle.timeline.specs.Places.{home}
use Rattle.timeline.proofs.places.home.Given as goal

abbrev pub invariant-loop-row : goal.invariant-loop-row
invariant-loop-row l = home (drop l.row-index l.rows) l.worker ≡ home l.rows l.worker
