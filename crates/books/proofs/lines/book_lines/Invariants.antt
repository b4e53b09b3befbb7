use Rattle.std.proofs.Common.{◌≡◌}
use Rattle.std.specs.Prelude.{string_bytes}
use Rattle.books.specs.Lines.{lines_below}
use Rattle.books.proofs.lines.book_lines.Given as goal

-- the lines of the seats before this one
abbrev pub invariant-loop-seat : goal.invariant-loop-seat
invariant-loop-seat l = string_bytes l.text ≡ lines_below l.seat l.log
