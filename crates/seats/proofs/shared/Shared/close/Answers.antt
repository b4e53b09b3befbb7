use Rattle.std.proofs.Common.{sym, subst, ◌∙◌}
use Rattle.run_paths.specs.of_protocol_board.Cores.{RunState}
use Rattle.seats.specs.Seated.{AreFrom}
use Rattle.seats.proofs.shared.Shared.close.Goals as goal

pub returns-clause-seated : goal.returns-clause-seated
returns-clause-seated g c =
    subst (λ n. AreFrom n c.into_board.result.log) (sym c.self.invariant.1 ∙ c.self.view_is)
    (subst (λ (r : RunState). AreFrom g.P.Watching.seats r.log) (sym c.into_board.ensures) c.gathered.ensures.seated)
