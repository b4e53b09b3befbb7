use Rattle.std.proofs.Common.{◌≡◌, ◌++◌, length}
use Rattle.std.specs.Prelude.{string_bytes}
use Rattle.event_files.specs.Lines.{line_text}
use Rattle.kept_lists.specs.Texts.{numbered_text}
use Rattle.kept_lists.proofs.texts.write_lines.Given as goal

-- what is written, with what is left, is the whole
abbrev pub invariant-loop-rest : goal.invariant-loop-rest
invariant-loop-rest l = string_bytes l.text ++ numbered_text line_text l.last l.rest l.left ≡ string_bytes l.fn.text ++ numbered_text line_text 0 l.lines l.numbers

abbrev pub decreases-loop-rest : goal.decreases-loop-rest
decreases-loop-rest l = length l.rest
