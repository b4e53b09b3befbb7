use Rattle.std.proofs.Common.{◌≡◌, ◌+◌}
use Rattle.event_log.specs.Laws.{nothing}
use Rattle.seat_books.specs.Seats.{further_parts_to, new_seats, parts_to}
use Rattle.seat_books.proofs.ledgers.split_all.Given as goal

-- the parts that are left and those of the seats so far are all; the pots are empty, and so are the seats' books
abbrev pub invariant-loop-turn : goal.invariant-loop-turn
invariant-loop-turn g l =
    (l.pots.all.parts + parts_to l.watched l.turn ≡ l.fn.pots.all.parts) × (l.pots.further.parts + further_parts_to l.watched l.turn ≡ 1)
    × (l.pots.all.book ≡ nothing) × (l.pots.further.book ≡ nothing) × (l.seats.items ≡ new_seats 1 l.turn)
