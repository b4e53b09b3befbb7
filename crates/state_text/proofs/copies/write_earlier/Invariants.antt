use Rattle.std.proofs.Common.{◌≡◌, ◌++◌, Some, string_bytes}
use Rattle.state_text.specs.Below.{below}
use Rattle.state_text.specs.Copies.{copy_lines}
use Rattle.state_text.proofs.copies.write_earlier.Given as goal

abbrev pub invariant-loop-earlier : goal.invariant-loop-earlier
invariant-loop-earlier l =
    string_bytes l.text ≡ string_bytes l.fn.text ++ below (copy_lines l.node l.store (Some l.first) l.object) l.earlier
