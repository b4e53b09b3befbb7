use Rattle.std.proofs.Common.{◌≡◌, ◌++◌, string_bytes, take, map}
use Rattle.std.specs.List.{flat_map}
use Rattle.why_text.specs.Runs.{run_seen}
use Rattle.why_text.specs.Events.{fate_on}
use Rattle.why_text.proofs.events.write_fates_on.Given as goal

abbrev pub invariant-loop-run : goal.invariant-loop-run
invariant-loop-run l = string_bytes l.text ≡ string_bytes l.fn.text ++ flat_map (fate_on l.worker) (map run_seen (take l.run-index l.runs))
