-- The books of a log, written: what was committed from each seat.
use Rattle.std.specs.Prelude.{ℕ, zero, suc, ◌==◌, if◌then◌else◌, List, [], ◌++◌, codes}
use Rattle.std.specs.Fmt.{decimal}
use Rattle.event_log.specs.Books.{Totals}
use Rattle.event_log.specs.Entries.{Entry}
use Rattle.books.specs.SeatTotals.{seat_totals}

-- book S COUNT SUM: the number of the accepted commits that came from the seat, and the sum of their jobs' numbers
abbrev pub book_text : ℕ → ℕ → ℕ → List ℕ
book_text seat count sum = codes "book " ++ (decimal seat ++ (codes " " ++ (decimal count ++ (codes " " ++ (decimal sum ++ codes "\n")))))

-- there is no line of a seat from which no commit was accepted
abbrev pub book_line : ℕ → Totals → List ℕ
book_line seat t = if t.commits == 0 then [] else book_text seat t.commits t.committed

-- the lines of the seats below that number
unfoldable pub lines_below : ℕ → List Entry → List ℕ
lines_below zero log = []
lines_below (suc seat) log = lines_below seat log ++ book_line seat (seat_totals seat log)

-- of the seats that files name, 0 to 8
abbrev pub book_lines : List Entry → List ℕ
book_lines log = lines_below 9 log
