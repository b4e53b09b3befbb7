use Rattle.std.proofs.Common.{◌≡◌, take}
use Rattle.log_text.specs.Runners.{nodes_in}
use Rattle.log_text.proofs.runners.nodes_in.Given as goal

abbrev pub invariant-loop-worker : goal.invariant-loop-worker
invariant-loop-worker l = l.all.items ≡ nodes_in l.nodes (take l.worker-index l.workers)
