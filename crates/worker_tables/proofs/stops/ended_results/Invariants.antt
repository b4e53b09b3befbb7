use Rattle.std.proofs.Common.{◌≡◌, map, take}
use Rattle.contexts.specs.of_protocol.Runs.{ended_result}
use Rattle.worker_tables.proofs.stops.ended_results.Given as goal

abbrev pub invariant-loop-content : goal.invariant-loop-content
invariant-loop-content l = l.results ≡ map ended_result (take l.content-index l.contents)
