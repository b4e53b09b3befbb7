use Rattle.std.proofs.Common.{◌≡◌, ◌++◌, map, take}
use Rattle.std.specs.List.{flat_map}
use Rattle.serde_json.specs.View.{view}
use Rattle.report_json.specs.Attempts.{attempt_in}
use Rattle.report_json.proofs.attempts.add_attempts.Given as goal

abbrev pub invariant-loop-entry : goal.invariant-loop-entry
invariant-loop-entry l = map view l.all.items ≡ map view l.fn.all.items ++ flat_map (attempt_in l.log) (take l.entry-index l.log)
