-- The four numbers of a tally.
use Rattle.event_log.specs.Books.{Totals}
use Rattle.seat_books.specs.declared.tally.Tally.{Tally}

abbrev pub totals_in : Tally → Totals
totals_in t = record { events = t.events; given = t.given; commits = t.commits; committed = t.committed }
