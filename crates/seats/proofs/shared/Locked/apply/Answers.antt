use Rattle.run_paths.specs.of_protocol_board.Cores.{reply_of}
use Rattle.seat_books.specs.Tallies.{totals_in}
use Rattle.seats.specs.Counted.{counted}
use Rattle.seats.proofs.Books.{all_add, watched_add}
use Rattle.seats.proofs.shared.Locked.apply.Goals as goal

pub invariant_of-self : goal.invariant_of-self
invariant_of-self g c =
    let old = c.args.self.now in
    let before = old.turning.run.log in
    let after = c.apply-told.new.self.run.log in
    let adds = counted c.args.event (reply_of c.apply-told.result) in
    let more = totals_in c.tally_of-more.result in
    let w = g.P.Watching.watched in
    let seat = c.args.seat.now.number in
    record {
      all_add_up = all_add before after adds more old.ledgers c.count.new.self w seat c.apply-told.ensures.counted c.tally_of-more.ensures c.count.ensures.ledgers
          old.all_add_up;
      watched_add_up = watched_add before after adds more old.ledgers c.count.new.self w seat c.number.result c.apply-told.ensures.watched c.number.ensures.number
          c.tally_of-more.ensures c.count.ensures.ledgers old.watched_add_up;
      seated = c.apply-told.ensures.seated g.P.Watching.seats c.number.ensures.within old.seated;
    }
