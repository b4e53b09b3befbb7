-- What each seat holds of the ledgers, and the sums of the seats' books.
use Rattle.std.specs.Prelude.{◌≡◌, ◌≤◌, ℕ, zero, suc, ◌+◌, ◌*◌, ◌==◌, if◌then◌else◌, List, [], ◌∷◌, Option, Some, None, sum_by}
use Rattle.event_log.specs.Books.{Totals}
use Rattle.event_log.specs.Laws.{nothing, plus}
use Rattle.books.specs.Laws.{from_seat}
use Rattle.seat_books.specs.Holdings.{Holding, holding}

-- its number, and the totals of what its calls did
pub record SeatOf : Type 0 where
  pub number : ℕ
  pub book : Totals

abbrev pub seat_at : ℕ → Totals → SeatOf
seat_at number book = record { number = number; book = book }

-- the seat, with so much more in its book
abbrev pub with_more : Totals → SeatOf → SeatOf
with_more more s = record s { book = plus s.book more }

-- so many seats with empty books, of which the first has that number
abbrev pub new_seats : ℕ → ℕ → List SeatOf
new_seats from zero = []
new_seats from (suc n) = record { number = from; book = nothing } ∷ new_seats (from + 1) n

-- the sums of their books, number by number
abbrev pub sums : List SeatOf → Totals
sums seats =
    record {
      events = sum_by (λ s. s.book.events) seats;
      given = sum_by (λ s. s.book.given) seats;
      commits = sum_by (λ s. s.book.commits) seats;
      committed = sum_by (λ s. s.book.committed) seats;
    }

-- the book of the seat with that number, the first such
abbrev pub book_of : ℕ → List SeatOf → Option Totals
book_of number [] = None
book_of number (s ∷ seats) = if s.number == number then Some s.book else book_of number seats

-- ---- the parts of ledgers that seats hold, where one is watched

-- of the ledgers of all seats the watched seat has one part, and each other seat two, so that seats without it would have too many
abbrev pub parts_at : ℕ → ℕ → ℕ
parts_at watched number = if number == watched then 1 else 2

-- of the further ledgers the watched seat has the one part
abbrev pub further_parts : ℕ → ℕ → ℕ
further_parts watched number = if number == watched then 1 else 0

-- so many parts have the ledgers of so many seats
abbrev pub AreParts : ℕ → ℕ → Type 0
AreParts seats parts = 2 * seats ≡ parts + 1

-- the number is one of so many seats, counted from 1
abbrev pub IsSeat : ℕ → ℕ → Type 0
IsSeat seats number = (1 ≤ number) × (number ≤ seats)

-- how many parts the first seats have, so many
abbrev pub parts_to : ℕ → ℕ → ℕ
parts_to watched zero = 0
parts_to watched (suc n) = parts_to watched n + parts_at watched (suc n)

abbrev pub further_parts_to : ℕ → ℕ → ℕ
further_parts_to watched zero = 0
further_parts_to watched (suc n) = further_parts_to watched n + further_parts watched (suc n)

-- what a seat holds of the further ledgers: the watched one has the part and its own book, another nothing
abbrev pub further_at : ℕ → SeatOf → Holding
further_at watched s = holding (further_parts watched s.number) (from_seat watched s.number s.book)

-- the totals of the ledgers of all seats, and of the further ones
pub record LedgersOf : Type 0 where
  pub all : Totals
  pub watched : Totals

abbrev pub ledgers_of : Totals → Totals → LedgersOf
ledgers_of all watched = record { all = all; watched = watched }

-- with so much more, which came from the seat
abbrev pub with_counted : ℕ → ℕ → Totals → LedgersOf → LedgersOf
with_counted watched seat more l = record { all = plus l.all more; watched = plus l.watched (from_seat watched seat more) }
