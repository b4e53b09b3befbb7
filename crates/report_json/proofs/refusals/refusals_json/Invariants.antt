use Rattle.std.proofs.Common.{◌≡◌, ◌++◌, None, map, drop}
use Rattle.serde_json.specs.View.{view}
use Rattle.report_json.specs.Refusals.{refused_data}
use Rattle.report_json.proofs.refusals.refusals_json.Given as goal

-- the refusals so far with those of the rest, whose first is of the last event so far
abbrev pub invariant-loop-entry : goal.invariant-loop-entry
invariant-loop-entry l = map view l.all.items ++ refused_data l.last (drop l.entry-index l.log) ≡ refused_data None l.log
