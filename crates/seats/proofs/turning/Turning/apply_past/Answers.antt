use Rattle.std.proofs.Common.{◌≡◌, ◌+◌, ◌≤◌, ◌∙◌, refl, sym, subst}
use Rattle.event_log.specs.Books.{totals_of}
use Rattle.event_log.specs.Laws.{plus}
use Rattle.run_paths.specs.of_protocol_board.Cores.{first_state, reply_of}
use Rattle.seats.specs.Counted.{AddsFrom, counted}
use Rattle.seats.specs.Ends.{first_events}
use Rattle.seats.specs.Outside.{Passes}
use Rattle.seats.specs.Seated.{StaysFrom}
use Rattle.seats.specs.Turns.{TurnState}
use Rattle.seats.proofs.Counted.{answers_counted}
use Rattle.seats.proofs.Few.{commits_now, few_behind}
use Rattle.seats.proofs.Outside.{keeps_kept, keeps_past}
use Rattle.seats.proofs.Held.{held_behind, passes_fit}
use Rattle.seats.proofs.Owed.{IsKept, kept_behind}
use Rattle.seats.proofs.Planned.{stands_past}
use Rattle.seats.proofs.Ruled.{ruled_behind}
use Rattle.seats.proofs.Seated.{stays_from}
use Rattle.seats.proofs.Sizes.{same_nodes, slots_behind, slots_kept}
use Rattle.seats.proofs.Standing.{stands_kept}
use Rattle.seats.proofs.turning.Turning.apply_past.Goals as goal

-- with this event there are no more commits than entries of the log
pub commits_behind-self-inside-requires : goal.commits_behind-self-inside-requires
commits_behind-self-inside-requires g c =
    let before = c.self.inside.board in
    let after = c.step-told.new.board in
    let e = c.args.event in
    let told = reply_of c.step-told.result in
    let h = answers_counted before after e c.args.seat c.args.done told c.self.invariant.0 c.step-told.ensures.answers in
    subst (λ n. c.self.inside.commits + (counted e told).commits ≤ n) (sym c.entries_of-most.ensures)
    (few_behind (totals_of before.log) (counted e told) after.log c.self.inside.commits h.totals c.self.invariant.1)

-- the event keeps what is known of a run with turns: counts, plan, jobs that are out, and the way from its beginning
pub invariant_of-self : goal.invariant_of-self
invariant_of-self g c =
    let before = c.self.inside.board in
    let after = c.step-told.new.board in
    let e = c.args.event in
    let told = reply_of c.step-told.result in
    let is_open = g.P.RunName.is_open in
    let t : TurnState = record { run = before; plan = c.self.inside.plan; taken = c.self.inside.taken; out = c.self.inside.out; given_up = c.self.inside.given_up } in
    let u : TurnState =
    record { run = after; plan = c.self.inside.plan; taken = c.args.taken; out = c.keep_or_give_up.new.out; given_up = c.keep_or_give_up.new.given_up } in
    let es = first_events c.args.taken c.self.inside.plan in
    let h = answers_counted before after e c.args.seat c.args.done told c.self.invariant.0 c.step-told.ensures.answers in
    let out = c.keep_or_give_up.new.out in
    let kept : IsKept out after.log c.keep_or_give_up.new.given_up =
    kept_behind c.self.inside.out c.self.inside.given_up before after e c.args.seat c.args.done told out c.keep_or_give_up.new.given_up
    c.self.invariant.0 c.step-told.ensures.answers (record { jobs = c.self.invariant.8; within = c.self.invariant.9 }) c.keep_or_give_up.ensures in
    let passes : Passes is_open t e c.args.done c.args.taken =
    subst (λ (r : TurnState). Passes is_open r e c.args.done c.args.taken) (sym c.self.view_is) c.requires.passes in (
      h.jobs,
      commits_now (totals_of before.log) (counted e told) after.log c.self.inside.commits c.commits_behind-self-inside.result
          h.totals c.self.invariant.1 c.commits_behind-self-inside.ensures,
      c.self.invariant.2,
      same_nodes before after e c.args.seat c.args.done told c.step-told.ensures.answers ∙ c.self.invariant.3,
      slots_kept g.P.RunName.size.slots after e told c.self.inside.out c.self.inside.given_up c.keep_or_give_up.new.out c.keep_or_give_up.new.given_up
          (slots_behind g.P.RunName.size.slots before after e c.args.seat c.args.done told c.self.inside.given_up c.step-told.ensures.answers
          c.self.invariant.4)
          c.keep_or_give_up.ensures,
      stands_kept es after.log e told c.self.inside.out c.self.inside.given_up c.keep_or_give_up.new.out c.keep_or_give_up.new.given_up
          (stands_past is_open t after e c.args.seat c.args.done told c.args.taken passes c.step-told.ensures.answers c.self.invariant.5)
          c.keep_or_give_up.ensures,
      keeps_kept is_open es after.log e told c.self.inside.out c.self.inside.given_up c.keep_or_give_up.new.out c.keep_or_give_up.new.given_up
          (keeps_past is_open t after e c.args.seat c.args.done told c.args.taken passes c.step-told.ensures.answers c.self.invariant.6)
          c.keep_or_give_up.ensures,
      c.paths_go_on.ensures.one_more g.S.ScriptName.script (first_state g.P.RunName.size.nodes g.P.RunName.size.slots) before after e
          c.args.seat c.args.done told c.self.invariant.7 c.attest.ensures c.step-told.ensures.answers,
      kept.jobs,
      kept.within,
      ruled_behind g.S.ScriptName.script is_open g.P.RunName.plan g.P.RunName.size t u e c.args.seat c.args.done told c.args.taken passes c.attest.ensures
          c.step-told.ensures.answers (record { plan = refl; taken = refl; kept = c.keep_or_give_up.ensures }) c.self.invariant.10,
      held_behind g.S.ScriptName.script is_open g.P.RunName.plan c.self.inside.out c.self.inside.given_up before after e c.args.seat c.args.done told out
          c.keep_or_give_up.new.given_up c.self.invariant.0 c.step-told.ensures.answers c.step-told.ensures.shown
          (passes_fit is_open g.P.RunName.plan t e c.args.done c.args.taken passes c.self.invariant.2) c.self.invariant.11 c.keep_or_give_up.ensures,
    )

-- the log's totals grow by what the event counts
pub returns-clause-counted : goal.returns-clause-counted
returns-clause-counted g c =
    let before = c.self.inside.board in
    let after = c.step-told.new.board in
    let e = c.args.event in
    let told = reply_of c.step-told.result in
    let h = answers_counted before after e c.args.seat c.args.done told c.self.invariant.0 c.step-told.ensures.answers in
    let P : TurnState → Type 0 = λ r. totals_of after.log ≡ plus (totals_of r.run.log) (counted e told) in
    subst P c.self.view_is h.totals

-- and so do those of the watched seat, where the event is its own
pub returns-clause-watched : goal.returns-clause-watched
returns-clause-watched g c =
    let before = c.self.inside.board in
    let after = c.step-told.new.board in
    let e = c.args.event in
    let told = reply_of c.step-told.result in
    let h = answers_counted before after e c.args.seat c.args.done told c.self.invariant.0 c.step-told.ensures.answers in
    let w = g.P.Watching.watched in
    let P : TurnState → Type 0 = λ r. AddsFrom w c.args.seat (counted e told) r.run.log after.log in
    subst P c.self.view_is (h.of_seat w)

-- what came into the log names that seat
pub returns-clause-seated : goal.returns-clause-seated
returns-clause-seated g c =
    let before = c.self.inside.board in
    let after = c.step-told.new.board in
    let e = c.args.event in
    let told = reply_of c.step-told.result in
    let P : TurnState → Type 0 = λ r. StaysFrom c.args.seat r.run.log after.log in
    subst P c.self.view_is (stays_from before after e c.args.seat c.args.done told c.step-told.ensures.answers)
