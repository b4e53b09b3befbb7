use Rattle.std.proofs.Common.{◌≡◌, subst}
use Rattle.event_log.specs.Books.{totals_of}
use Rattle.event_log.specs.Laws.{plus}
use Rattle.run_paths.specs.of_protocol_board.Cores.{reply_of}
use Rattle.seats.specs.Counted.{AddsFrom, counted}
use Rattle.seats.specs.Seated.{StaysFrom}
use Rattle.seats.specs.Turns.{TurnState}
use Rattle.seats.proofs.Given.{open_stays}
use Rattle.seats.proofs.Seen.{goes_on}
use Rattle.seats.proofs.seen_turning.SeenTurning.apply.Goals as goal

pub follow-requires : goal.follow-requires
follow-requires g c = λ whole.
    goes_on c.self.inside.log.seen c.self.inside.turning.run c.apply-told.new.self.run c.apply-told.ensures.answers (c.self.invariant.0 whole)

pub returns-clause-counted : goal.returns-clause-counted
returns-clause-counted g c =
    let after = c.apply-told.new.self.run.log in
    let more = counted c.args.event (reply_of c.apply-told.result) in
    subst (λ (t : TurnState). totals_of after ≡ plus (totals_of t.run.log) more) c.self.view_is c.apply-told.ensures.counted

pub returns-clause-watched : goal.returns-clause-watched
returns-clause-watched g c =
    let after = c.apply-told.new.self.run.log in
    let more = counted c.args.event (reply_of c.apply-told.result) in
    subst (λ (t : TurnState). AddsFrom g.P.Watching.watched c.args.seat more t.run.log after) c.self.view_is c.apply-told.ensures.watched

pub returns-clause-seated : goal.returns-clause-seated
returns-clause-seated g c =
    let after = c.apply-told.new.self.run.log in
    subst (λ (t : TurnState). StaysFrom c.args.seat t.run.log after) c.self.view_is c.apply-told.ensures.seated

pub invariant_of-self : goal.invariant_of-self
invariant_of-self g c =
    (c.follow.ensures, open_stays g.P.RunName.is_open g.P.RunName.plan c.apply-told.new.self c.self.inside.tickets c.requires.open)
