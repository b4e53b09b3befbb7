use Rattle.std.proofs.Common.{◌≡◌, ◌++◌, string_bytes}
use Rattle.why_text.specs.Text.{causes_text}
use Rattle.why_text.proofs.causes.write_causes.Given as goal

-- the text so far with the chain of causes that is left
abbrev pub invariant-loop-left : goal.invariant-loop-left
invariant-loop-left l =
    string_bytes l.text ++ causes_text l.contents l.log l.lines l.cause l.left l.object
    ≡ string_bytes l.fn.text ++ causes_text l.contents l.log l.lines l.cause l.most l.fn.first

abbrev pub decreases-loop-left : goal.decreases-loop-left
decreases-loop-left l = l.left
