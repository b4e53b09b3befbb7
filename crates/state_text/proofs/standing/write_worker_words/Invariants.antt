use Rattle.std.proofs.Common.{◌≡◌, ◌++◌, string_bytes, take}
use Rattle.std.specs.List.{flat_map}
use Rattle.state_text.specs.Below.{worker_word}
use Rattle.state_text.proofs.standing.write_worker_words.Given as goal

abbrev pub invariant-loop-worker : goal.invariant-loop-worker
invariant-loop-worker l = string_bytes l.text ≡ string_bytes l.fn.text ++ flat_map worker_word (take l.worker-index l.workers)
