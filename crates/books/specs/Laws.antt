-- The laws of the totals of one seat.
use Rattle.std.specs.Prelude.{◌≡◌, ℕ, ◌==◌, false, if◌then◌else◌, List, ◌∷◌, ◌++◌, length}
use Rattle.event_log.specs.Entries.{Event, Entry, In}
use Rattle.event_log.specs.Events.{claims}
use Rattle.event_log.specs.Legal.{has_event, opening}
use Rattle.event_log.specs.Books.{Totals}
use Rattle.event_log.specs.Laws.{nothing, plus, event_totals}
use Rattle.books.specs.SeatTotals.{seat_totals}

-- so much more for the one seat, if it comes from that seat
abbrev pub from_seat : ℕ → ℕ → Totals → Totals
from_seat seat s more = if s == seat then more else nothing

-- a seat's totals are sums over the events that came from it: each adds what it adds to the totals of the log
pub record SeatTotalsAreSums (seat : ℕ) (log : List Entry) : Type 0 where
  pub none : seat_totals seat opening ≡ nothing
  pub more :
      (e : Event) (s : ℕ) (es : List Entry) → has_event es ≡ false →
      seat_totals seat (log ++ In e s ∷ es) ≡ plus (seat_totals seat log) (from_seat seat s (event_totals (length (claims log)) e es))

abbrev pub LawOfSeatTotals : Type 0
LawOfSeatTotals = (seat : ℕ) (log : List Entry) → SeatTotalsAreSums seat log
