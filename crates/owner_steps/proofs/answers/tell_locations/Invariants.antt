use Rattle.std.proofs.Common.{◌≡◌, drop}
use Rattle.protocol.specs.Tables.{settled_number}
use Rattle.protocol.specs.Locations.{tells_locations}
use Rattle.protocol_data.specs.declared.tables.Object.{Object}
use Rattle.owner_steps.proofs.answers.tell_locations.Given as goal

-- telling the workers that are left ends as telling all
abbrev pub invariant-loop-worker : goal.invariant-loop-worker
invariant-loop-worker l =
    (x : Object) → settled_number x ≡ l.number → x.locations ≡ l.locations → x.kept ≡ l.kept
    → tells_locations l.here (drop l.worker-index l.worker-items) l.object x ≡ tells_locations l.initial.here l.worker-items l.object x
