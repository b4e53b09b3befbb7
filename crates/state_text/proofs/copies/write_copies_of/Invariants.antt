use Rattle.std.proofs.Common.{◌≡◌, ◌++◌, string_bytes}
use Rattle.state_text.specs.Below.{below}
use Rattle.state_text.specs.Copies.{row_copies}
use Rattle.state_text.proofs.copies.write_copies_of.Given as goal

abbrev pub invariant-loop-place : goal.invariant-loop-place
invariant-loop-place l =
    string_bytes l.text ≡ string_bytes l.fn.text ++ below (row_copies l.node l.store l.owner l.worker.objects) l.place
