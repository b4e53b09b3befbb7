use Rattle.std.proofs.Common.{◌≡◌, subst, sym}
use Rattle.event_log.specs.Books.{totals_of}
use Rattle.event_log.specs.Laws.{plus}
use Rattle.seats.specs.Counted.{AddsFrom}
use Rattle.seats.specs.Held.{StayOut}
use Rattle.seats.specs.Seated.{StaysFrom}
use Rattle.seats.specs.Turns.{Told, TurnState, Turned, turn_counted}
use Rattle.seats.specs.Views.{told_of}
use Rattle.seats.proofs.Given.{turn_stays}
use Rattle.seats.proofs.Seen.{turn_goes_on}
use Rattle.seats.proofs.seen_turning.SeenTurning.turn.Goals as goal

pub follow-requires : goal.follow-requires
follow-requires g c = λ whole.
    turn_goes_on c.self.inside.log.seen c.self.inside.turning c.turn-told.new.self c.args.seat (told_of c.turn-told.result) c.turn-told.ensures.turned
    (c.self.invariant.0 whole)

pub returns-clause-turned : goal.returns-clause-turned
returns-clause-turned g c =
    let after = c.turn-told.new.self in
    subst (λ (t : TurnState). Turned t c.args.seat after (told_of c.give.result)) c.self.view_is
    (subst (λ (told : Told). Turned c.self.inside.turning c.args.seat after told) (sym c.give.ensures.same) c.turn-told.ensures.turned)

pub returns-clause-counted : goal.returns-clause-counted
returns-clause-counted g c =
    let after = c.turn-told.new.self.run.log in
    subst (λ (t : TurnState). totals_of after ≡ plus (totals_of t.run.log) (turn_counted (told_of c.give.result))) c.self.view_is
    (subst (λ (told : Told). totals_of after ≡ plus (totals_of c.self.inside.turning.run.log) (turn_counted told)) (sym c.give.ensures.same)
    c.turn-told.ensures.counted)

pub returns-clause-watched : goal.returns-clause-watched
returns-clause-watched g c =
    let after = c.turn-told.new.self.run.log in
    let w = g.P.Watching.watched in
    subst (λ (t : TurnState). AddsFrom w c.args.seat (turn_counted (told_of c.give.result)) t.run.log after) c.self.view_is
    (subst (λ (told : Told). AddsFrom w c.args.seat (turn_counted told) c.self.inside.turning.run.log after) (sym c.give.ensures.same)
    c.turn-told.ensures.watched)

pub returns-clause-seated : goal.returns-clause-seated
returns-clause-seated g c =
    let after = c.turn-told.new.self.run.log in
    subst (λ (t : TurnState). StaysFrom c.args.seat t.run.log after) c.self.view_is c.turn-told.ensures.seated

pub invariant_of-self : goal.invariant_of-self
invariant_of-self g c =
    let is_open = g.P.RunName.is_open in
    let plan = g.P.RunName.plan in
    let t = c.self.inside.turning in
    let u = c.turn-told.new.self in
    let given = c.self.inside.tickets in
    let log = c.log.ensures in (
      c.follow.ensures,
      subst (StayOut is_open plan u u.given_up) (sym c.give.ensures.tickets)
          (turn_stays g.S.ScriptName.script is_open plan c.jobs_stand.ensures c.claims_give_jobs_out.ensures.given given t u c.args.seat
          (told_of c.turn-told.result) log.sound log.given log.planned log.held c.self.invariant.1 c.turn-told.ensures.turned),
    )
