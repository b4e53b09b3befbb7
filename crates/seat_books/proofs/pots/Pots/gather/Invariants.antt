use Rattle.std.proofs.Common.{◌≡◌, ◌+◌, length}
use Rattle.std.specs.Prelude.{sum_by}
use Rattle.seat_books.specs.Seats.{further_at, further_parts, parts_at}
use Rattle.seat_books.proofs.pots.Pots.gather.Given as goal

-- what the pots hold and what the seats that are left hold is all, ledger by ledger
abbrev pub invariant-loop-seat : goal.invariant-loop-seat
invariant-loop-seat g l =
    let w = g.P.Watching.watched in
    (sum_by (λ s. parts_at w s.number) l.seats.items + l.pots.all.parts ≡ sum_by (λ s. parts_at w s.number) l.fn.seats.items)
    × (sum_by (λ s. s.book.events) l.seats.items + l.pots.all.book.events ≡ sum_by (λ s. s.book.events) l.fn.seats.items)
    × (sum_by (λ s. s.book.given) l.seats.items + l.pots.all.book.given ≡ sum_by (λ s. s.book.given) l.fn.seats.items)
    × (sum_by (λ s. s.book.commits) l.seats.items + l.pots.all.book.commits ≡ sum_by (λ s. s.book.commits) l.fn.seats.items)
    × (sum_by (λ s. s.book.committed) l.seats.items + l.pots.all.book.committed ≡ sum_by (λ s. s.book.committed) l.fn.seats.items)
    × (sum_by (λ s. further_parts w s.number) l.seats.items + l.pots.further.parts ≡ sum_by (λ s. further_parts w s.number) l.fn.seats.items)
    × (sum_by (λ s. (further_at w s).book.events) l.seats.items + l.pots.further.book.events ≡ sum_by (λ s. (further_at w s).book.events) l.fn.seats.items)
    × (sum_by (λ s. (further_at w s).book.given) l.seats.items + l.pots.further.book.given ≡ sum_by (λ s. (further_at w s).book.given) l.fn.seats.items)
    × (sum_by (λ s. (further_at w s).book.commits) l.seats.items + l.pots.further.book.commits ≡ sum_by (λ s. (further_at w s).book.commits) l.fn.seats.items)
    × (sum_by (λ s. (further_at w s).book.committed) l.seats.items + l.pots.further.book.committed
    ≡ sum_by (λ s. (further_at w s).book.committed) l.fn.seats.items)

abbrev pub decreases-loop-seat : goal.decreases-loop-seat
decreases-loop-seat g l = length l.seats.items
