use Rattle.std.proofs.Common.{◌≡◌, map}
use Rattle.serde_json.specs.View.{view}
use Rattle.timeline.specs.Nodes.{names_of}
use Rattle.timeline.proofs.nodes.node_names.Given as goal

abbrev pub invariant-loop-before : goal.invariant-loop-before
invariant-loop-before l = map view l.all.items ≡ names_of l.before
