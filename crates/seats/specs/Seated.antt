-- From which seats the events of a log came.
use Rattle.std.specs.Prelude.{◌≡◌, ℕ, List, Some, slice_get}
use Rattle.event_log.specs.Entries.{Entry, Event, In}
use Rattle.seat_books.specs.Seats.{IsSeat}

-- each event of the log came from one of so many seats, numbered from 1
abbrev pub AreFrom : ℕ → List Entry → Type 0
AreFrom seats log = (k : ℕ) (e : Event) (seat : ℕ) → slice_get log k ≡ Some (In e seat) → IsSeat seats seat

-- where the events so far came from one of so many seats, so they do behind one from that seat
abbrev pub StaysFrom : ℕ → List Entry → List Entry → Type 0
StaysFrom seat before after = (seats : ℕ) → IsSeat seats seat → AreFrom seats before → AreFrom seats after
