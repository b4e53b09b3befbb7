use Rattle.std.proofs.Common.{◌≡◌, take}
use Rattle.std.specs.List.{flat_map}
use Rattle.endpoint_text.specs.Nodes.{dying_in}
use Rattle.endpoint_text.proofs.nodes.dying.Given as goal

abbrev pub invariant-loop-entry : goal.invariant-loop-entry
invariant-loop-entry l = l.workers.items ≡ flat_map (dying_in l.log l.node) (take l.entry-index l.log)
