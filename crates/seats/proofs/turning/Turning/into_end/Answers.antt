use Rattle.std.proofs.Common.{◌≡◌, ◌∙◌, Some, ap, inr, refl, rules, subst, sym}
use Rattle.log_entries.specs.declared.refusal.Refusal.TheVariants as refusals
use Rattle.run_paths.specs.of_protocol_board.Cores.{RunState}
use Rattle.seats.specs.Ends.{IsAtLimit}
use Rattle.seats.specs.Ruled.{IsRuledRun}
use Rattle.seats.specs.Turns.{TurnState}
use Rattle.seats.proofs.Limited.{is_at_limit}
use Rattle.seats.proofs.Ruled.{ruled_run}
use Rattle.seats.proofs.turning.Turning.into_end.Goals as goal

pub returns-in-Some-Limit-clause-ended : goal.returns-in-Some-Limit-clause-ended
returns-in-Some-Limit-clause-ended g c =
    let t = c.self.inside in
    let kept = c.self.invariant in
    let same : t.board ≡ c.into_board-board.result = ap (λ (x : TurnState). x.run) c.self.view_is ∙ sym c.into_board-board.ensures in
    let limited : t.given_up ≡ Some refusals.Limit = search rules in
    let state : TurnState = record { run = t.board; plan = t.plan; taken = t.taken; out = t.out; given_up = t.given_up } in
    let ruled = subst (λ o. IsRuledRun g.S.ScriptName.script g.P.RunName.is_open g.P.RunName.plan g.P.RunName.size o t.board) limited
    (ruled_run g.S.ScriptName.script g.P.RunName.is_open g.P.RunName.plan g.P.RunName.size state t.board t.given_up refl refl (inr limited) kept.10) in
    subst (λ (r : RunState). IsAtLimit g.S.ScriptName.script g.P.RunName.is_open g.P.RunName.plan g.P.RunName.size r) same
    (is_at_limit g.S.ScriptName.script g.P.RunName.is_open g.P.RunName.plan t.plan g.P.RunName.size t.board t.taken t.given_up limited
    kept.2 kept.5 kept.6 kept.3 kept.7 ruled)
