use Rattle.std.proofs.Common.{◌≡◌, take}
use Rattle.std.specs.List.{flat_map}
use Rattle.endpoint_text.specs.Nodes.{ran_at_in}
use Rattle.endpoint_text.proofs.sites.ran_at.Given as goal

abbrev pub invariant-loop-entry : goal.invariant-loop-entry
invariant-loop-entry l = l.runs.items ≡ flat_map (ran_at_in l.nodes l.node) (take l.entry-index l.log)
