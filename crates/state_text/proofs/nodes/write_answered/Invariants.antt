use Rattle.std.proofs.Common.{◌≡◌, ◌++◌, string_bytes, take}
use Rattle.std.specs.List.{flat_map}
use Rattle.state_text.specs.Nodes.{answered_line}
use Rattle.state_text.proofs.nodes.write_answered.Given as goal

abbrev pub invariant-loop-worker : goal.invariant-loop-worker
invariant-loop-worker l =
    string_bytes l.text ≡ string_bytes l.fn.text ++ flat_map (answered_line l.number) (take l.worker-index l.workers)
