use Rattle.std.proofs.Common.{◌∙◌, refl, subst, sym}
use Rattle.protocol_board.specs.Replays.{Gives, next_line}
use Rattle.protocol_board.proofs.replay.Replay.play_event.Goals as goal

pub returns-then-is_same-clause-plays : goal.returns-then-is_same-clause-plays
returns-then-is_same-clause-plays g c =
    let said = c.args.said.now in
    let gives = subst (λ d. Gives g.S.ScriptName.script (next_line d) said.event said.seat c.apply.new.self c.in_ok-given.given)
    c.self.view_is c.in_ok-given.ensures.gives in
    (gives.0, sym (c.if-is_same.ensures.same refl) ∙ gives.1)

pub returns-clause-stops : goal.returns-clause-stops
returns-clause-stops g c =
    let said = c.args.said.now in
    let gives = subst (λ d. Gives g.S.ScriptName.script (next_line d) said.event said.seat c.apply.new.self c.in_ok-given.given)
    c.self.view_is c.in_ok-given.ensures.gives in
    (c.in_ok-given.given, gives, c.if-is_same.ensures.other refl)
