use Rattle.std.proofs.Common.{◌≡◌, ◌++◌, string_bytes}
use Rattle.main_text.specs.Traps.{traps_text}
use Rattle.main_text.proofs.traps.write_traps.Given as goal

-- the text so far with the chain of traps that is left
abbrev pub invariant-loop-left : goal.invariant-loop-left
invariant-loop-left l =
    string_bytes l.text ++ traps_text l.contents l.whole.jobs l.log l.lines l.left l.attempt
    ≡ string_bytes l.fn.text ++ traps_text l.contents l.whole.jobs l.log l.lines l.most l.fn.first

abbrev pub decreases-loop-left : goal.decreases-loop-left
decreases-loop-left l = l.left
