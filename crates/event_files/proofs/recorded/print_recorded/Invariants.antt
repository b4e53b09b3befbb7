use Rattle.std.proofs.Common.{◌≡◌, take}
use Rattle.std.specs.Prelude.{string_bytes}
use Rattle.event_files.specs.Recorded.{recorded_file}
use Rattle.event_files.proofs.recorded.print_recorded.Given as goal

abbrev pub invariant-loop-said : goal.invariant-loop-said
invariant-loop-said l = string_bytes l.text ≡ recorded_file (take l.said-index l.events)
