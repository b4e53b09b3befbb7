use Rattle.indexmap.specs.IndexMap.{values}
use Rattle.protocol_data.specs.Unneeded.{AreKept}
use Rattle.protocol_data.proofs.search.kept_until.Given as goal

-- those from the first to before the place are kept
abbrev pub invariant-loop-place : goal.invariant-loop-place
invariant-loop-place l = AreKept (values l.rows) l.from l.place l.bearer l.own
