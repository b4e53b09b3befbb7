use Rattle.std.proofs.Common.{◌≡◌, ◌++◌}
use Rattle.std.specs.Prelude.{replicate, string_bytes}
use Rattle.kept_lists.specs.Texts.{feeds}
use Rattle.kept_lists.proofs.texts.go_on.Given as goal

-- what is written, with the line feeds that are left, is the whole
abbrev pub invariant-loop-left : goal.invariant-loop-left
invariant-loop-left l = string_bytes l.text ++ replicate l.left 10 ≡ string_bytes l.fn.text ++ feeds l.last l.number

abbrev pub decreases-loop-left : goal.decreases-loop-left
decreases-loop-left l = l.left
