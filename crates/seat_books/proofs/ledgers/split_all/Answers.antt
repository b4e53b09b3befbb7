use Rattle.seat_books.proofs.Splitting.{enough, enough_further, is_next}
use Rattle.seat_books.proofs.ledgers.split_all.Goals as goal

pub split-requires-clause-parts : goal.split-requires-clause-parts
split-requires-clause-parts g c =
    enough c.args.watched c.args.n c.loop-turn.turn c.args.pots.all.parts c.loop-turn.pots.all.parts c.requires.watched.1 c.requires.watched.2
    c.loop-turn-test.true c.requires.parts.0 c.loop-turn.invariant.0

pub split-requires-clause-further_parts : goal.split-requires-clause-further_parts
split-requires-clause-further_parts g c =
    enough_further c.args.watched c.args.n c.loop-turn.turn c.loop-turn.pots.further.parts c.requires.watched.1 c.requires.watched.2 c.loop-turn-test.true
    c.loop-turn.invariant.1

pub split-requires-clause-within : goal.split-requires-clause-within
split-requires-clause-within g c = is_next c.args.n c.loop-turn.turn g.P.Watching.seats c.loop-turn-test.true c.requires.seats
