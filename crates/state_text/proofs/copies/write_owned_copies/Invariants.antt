use Rattle.std.proofs.Common.{◌≡◌, ◌++◌, string_bytes}
use Rattle.state_text.specs.Below.{below}
use Rattle.state_text.specs.Copies.{worker_copies}
use Rattle.state_text.proofs.copies.write_owned_copies.Given as goal

abbrev pub invariant-loop-place : goal.invariant-loop-place
invariant-loop-place l =
    string_bytes l.text ≡ string_bytes l.fn.text ++ below (worker_copies l.node l.store l.whole) l.place
