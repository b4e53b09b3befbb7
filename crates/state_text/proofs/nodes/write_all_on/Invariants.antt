use Rattle.std.proofs.Common.{◌≡◌, ◌++◌, string_bytes}
use Rattle.state_text.specs.Below.{below}
use Rattle.state_text.specs.Nodes.{on_node}
use Rattle.state_text.proofs.nodes.write_all_on.Given as goal

abbrev pub invariant-loop-place : goal.invariant-loop-place
invariant-loop-place l = string_bytes l.text ≡ string_bytes l.fn.text ++ below (on_node l.number l.whole) l.place
