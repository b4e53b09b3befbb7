use Rattle.std.proofs.Common.{ap, ◌∙◌}
use Rattle.event_log.specs.Entries.{Commit}
use Rattle.run_paths.specs.of_protocol_board.Cores.{reply_of}
use Rattle.seat_books.specs.Tallies.{totals_in}
use Rattle.seats.specs.Counted.{counted}
use Rattle.seats.proofs.Books.{all_add, watched_add}
use Rattle.seats.proofs.shared.Locked.commit.Goals as goal

pub invariant_of-self : goal.invariant_of-self
invariant_of-self g c =
    let old = c.args.self.now in
    let before = old.turning.run.log in
    let after = c.commit-told.new.self.run.log in
    let adds = counted (Commit c.args.done.job.number) (reply_of c.commit-told.result) in
    let more = totals_in c.tally_of-more.result in
    let counted_so = c.tally_of-more.ensures ∙ ap (λ j. counted (Commit j) (reply_of c.commit-told.result)) c.number-job.ensures in
    let w = g.P.Watching.watched in
    let seat = c.args.seat.now.number in
    record {
      all_add_up = all_add before after adds more old.ledgers c.count.new.self w seat c.commit-told.ensures.counted counted_so c.count.ensures.ledgers
          old.all_add_up;
      watched_add_up = watched_add before after adds more old.ledgers c.count.new.self w seat c.number-place.result c.commit-told.ensures.watched c.number-place.ensures.number
          counted_so c.count.ensures.ledgers old.watched_add_up;
      seated = c.commit-told.ensures.seated g.P.Watching.seats c.number-place.ensures.within old.seated;
    }
