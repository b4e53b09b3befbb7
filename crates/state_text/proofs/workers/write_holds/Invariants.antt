use Rattle.std.proofs.Common.{◌≡◌, ◌++◌, string_bytes, take}
use Rattle.std.specs.List.{flat_map}
use Rattle.state_text.specs.Workers.{hold_line}
use Rattle.state_text.proofs.workers.write_holds.Given as goal

abbrev pub invariant-loop-hold : goal.invariant-loop-hold
invariant-loop-hold l = string_bytes l.text ≡ string_bytes l.fn.text ++ flat_map (hold_line l.worker) (take l.hold-index l.holds)
