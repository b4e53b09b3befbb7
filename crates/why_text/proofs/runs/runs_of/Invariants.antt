use Rattle.std.proofs.Common.{◌≡◌, map, take}
use Rattle.std.specs.List.{flat_map}
use Rattle.event_log.specs.Words.{opened}
use Rattle.why_text.specs.Runs.{run_in, run_seen}
use Rattle.why_text.proofs.runs.runs_of.Given as goal

abbrev pub invariant-loop-entry : goal.invariant-loop-entry
invariant-loop-entry l =
    l.nodes ≡ opened l.log →
    map run_seen l.runs.items ≡ flat_map (run_in l.log l.task) (take l.entry-index l.log)
