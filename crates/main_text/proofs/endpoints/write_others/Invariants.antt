use Rattle.std.proofs.Common.{◌≡◌, ◌++◌, string_bytes, take}
use Rattle.std.specs.List.{flat_map}
use Rattle.main_text.specs.Links.{other_text}
use Rattle.main_text.proofs.endpoints.write_others.Given as goal

abbrev pub invariant-loop-worker : goal.invariant-loop-worker
invariant-loop-worker l = string_bytes l.text ≡ string_bytes l.fn.text ++ flat_map other_text (take l.worker-index l.workers)
