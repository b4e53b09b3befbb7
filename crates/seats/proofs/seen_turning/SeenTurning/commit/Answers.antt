use Rattle.std.proofs.Common.{◌≡◌, Some, ap, subst, sym}
use Rattle.event_log.specs.Books.{totals_of}
use Rattle.event_log.specs.Entries.{Commit}
use Rattle.event_log.specs.Laws.{plus}
use Rattle.run_paths.specs.of_protocol_board.Cores.{Answers, IsOfLog, reply_of}
use Rattle.segment.specs.Jobs.{Done}
use Rattle.seats.specs.Counted.{AddsFrom, counted}
use Rattle.seats.specs.Held.{StayOut}
use Rattle.seats.specs.Outside.{MayApply}
use Rattle.seats.specs.Seated.{StaysFrom}
use Rattle.seats.specs.Turns.{TurnState}
use Rattle.seats.proofs.Given.{commit_stays, handed_back, may_hand_in}
use Rattle.seats.proofs.Seen.{goes_on}
use Rattle.seats.proofs.seen_turning.SeenTurning.commit.Goals as goal

-- the ticket shows that the job is still out
pub apply_as-told-requires-clause-may : goal.apply_as-told-requires-clause-may
apply_as-told-requires-clause-may g c =
    let t = c.self.inside.turning in
    let given = c.self.inside.tickets in
    let work = c.args.done in
    let back = handed_back work c.of-done.result.1 given c.take_back.new.self c.of-done.ensures.ticket c.take_back.ensures in
    subst (λ (d : Done). MayApply g.P.RunName.is_open t (Commit c.number.result) (Some d)) (sym c.of-done.ensures.done)
    (may_hand_in g.P.RunName.is_open g.P.RunName.plan t given (Commit c.number.result) work back.0 (ap Commit c.number.ensures) c.self.invariant.1
    c.log.ensures.planned back.1)

pub apply_as-told-requires-clause-own : goal.apply_as-told-requires-clause-own
apply_as-told-requires-clause-own g c = λ is.
    subst (λ l. IsOfLog l c.of-done.result.0.job) (c.self.invariant.0 (c.of-done.ensures.whole is))
    (subst (λ (d : Done). IsOfLog c.self.inside.log.seen d.job) (sym c.of-done.ensures.done) (c.of-done.ensures.own is))

pub follow-requires : goal.follow-requires
follow-requires g c = λ whole.
    goes_on c.self.inside.log.seen c.self.inside.turning.run c.apply_as-told.new.self.run c.apply_as-told.ensures.answers (c.self.invariant.0 whole)

pub invariant_of-self : goal.invariant_of-self
invariant_of-self g c =
    let is_open = g.P.RunName.is_open in
    let plan = g.P.RunName.plan in
    let t = c.self.inside.turning in
    let u = c.apply_as-told.new.self in
    let given = c.self.inside.tickets in
    let work = c.args.done in
    let e = Commit c.number.result in
    let told = reply_of c.apply_as-told.result in
    let back = handed_back work c.of-done.result.1 given c.take_back.new.self c.of-done.ensures.ticket c.take_back.ensures in (
      c.follow.ensures,
      subst (StayOut is_open plan u u.given_up) (sym back.2)
          (commit_stays g.S.ScriptName.script is_open plan c.jobs_stand.ensures given t u e c.args.seat work back.0 told (ap Commit c.number.ensures)
          c.log.ensures.sound c.self.invariant.1 back.1
          (subst (λ (d : Done). Answers t.run e c.args.seat (Some d) u.run told) c.of-done.ensures.done c.apply_as-told.ensures.answers)
          c.apply_as-told.ensures.follows.kept),
    )

pub returns-clause-counted : goal.returns-clause-counted
returns-clause-counted g c =
    let after = c.apply_as-told.new.self.run.log in
    let told = reply_of c.apply_as-told.result in
    subst (λ (t : TurnState). totals_of after ≡ plus (totals_of t.run.log) (counted (Commit c.args.done.job.number) told)) c.self.view_is
    (subst (λ n. totals_of after ≡ plus (totals_of c.self.inside.turning.run.log) (counted (Commit n) told)) c.number.ensures
    c.apply_as-told.ensures.counted)

pub returns-clause-watched : goal.returns-clause-watched
returns-clause-watched g c =
    let after = c.apply_as-told.new.self.run.log in
    let told = reply_of c.apply_as-told.result in
    let w = g.P.Watching.watched in
    subst (λ (t : TurnState). AddsFrom w c.args.seat (counted (Commit c.args.done.job.number) told) t.run.log after) c.self.view_is
    (subst (λ n. AddsFrom w c.args.seat (counted (Commit n) told) c.self.inside.turning.run.log after) c.number.ensures c.apply_as-told.ensures.watched)

pub returns-clause-seated : goal.returns-clause-seated
returns-clause-seated g c =
    let after = c.apply_as-told.new.self.run.log in
    subst (λ (t : TurnState). StaysFrom c.args.seat t.run.log after) c.self.view_is c.apply_as-told.ensures.seated
