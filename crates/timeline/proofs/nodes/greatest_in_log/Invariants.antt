use Rattle.std.proofs.Common.{◌≡◌, drop}
use Rattle.timeline.specs.Nodes.{greatest_in_log}
use Rattle.timeline.proofs.nodes.greatest_in_log.Given as goal

abbrev pub invariant-loop-place : goal.invariant-loop-place
invariant-loop-place l = greatest_in_log l.most (drop l.place l.log) ≡ greatest_in_log l.first l.log
