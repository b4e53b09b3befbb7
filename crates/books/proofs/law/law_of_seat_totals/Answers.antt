use Rattle.books.proofs.SeatLaws.{law_of_seat_totals}
use Rattle.books.proofs.law.law_of_seat_totals.Goals as goal

pub returns : goal.returns
returns c = law_of_seat_totals
