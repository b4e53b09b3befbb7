use Rattle.std.proofs.Common.{◌≡◌, drop, map}
use Rattle.std.specs.List.{list_any}
use Rattle.why_text.specs.Runs.{run_seen}
use Rattle.why_text.specs.Events.{is_at}
use Rattle.why_text.proofs.events.is_any_at.Given as goal

abbrev pub invariant-loop-run : goal.invariant-loop-run
invariant-loop-run l = list_any (is_at l.node) (map run_seen l.runs) ≡ list_any (is_at l.node) (map run_seen (drop l.run-index l.runs))
