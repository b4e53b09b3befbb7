use Rattle.seat_books.specs.Tallies.{totals_in}
use Rattle.seats.specs.Turns.{turn_counted}
use Rattle.seats.specs.Views.{told_of}
use Rattle.seats.proofs.Books.{all_add, watched_add}
use Rattle.seats.proofs.shared.Locked.turn.Goals as goal

pub invariant_of-self : goal.invariant_of-self
invariant_of-self g c =
    let old = c.args.self.now in
    let before = old.turning.run.log in
    let after = c.turn-told.new.self.run.log in
    let adds = turn_counted (told_of c.turn-told.result) in
    let more = totals_in c.turn_tally-more.result in
    let w = g.P.Watching.watched in
    let seat = c.args.seat.now.number in
    record {
      all_add_up = all_add before after adds more old.ledgers c.count.new.self w seat c.turn-told.ensures.counted c.turn_tally-more.ensures c.count.ensures.ledgers
          old.all_add_up;
      watched_add_up = watched_add before after adds more old.ledgers c.count.new.self w seat c.number.result c.turn-told.ensures.watched c.number.ensures.number
          c.turn_tally-more.ensures c.count.ensures.ledgers old.watched_add_up;
      seated = c.turn-told.ensures.seated g.P.Watching.seats c.number.ensures.within old.seated;
    }
