use Rattle.std.proofs.Common.{subst, sym}
use Rattle.seats.specs.Outside.{Passes}
use Rattle.seats.specs.Turns.{TurnState}
use Rattle.seats.proofs.Passing.{call_passes}
use Rattle.seats.proofs.turning.Turning.apply_as.Goals as goal

pub apply_past-requires-clause-passes : goal.apply_past-requires-clause-passes
apply_past-requires-clause-passes g c =
    subst (λ (t : TurnState). Passes g.P.RunName.is_open c.args.self.now c.args.event c.args.done t.taken) (sym c.self.view_is)
    (call_passes g.P.RunName.is_open c.args.self.now c.args.event c.args.done c.requires.may)
