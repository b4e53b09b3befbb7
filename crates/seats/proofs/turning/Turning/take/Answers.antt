use Rattle.std.proofs.Common.{None, subst, sym}
use Rattle.seats.specs.Outside.{Passes}
use Rattle.seats.specs.Turns.{TurnState}
use Rattle.seats.proofs.Passing.{turn_passes}
use Rattle.seats.proofs.turning.Turning.take.Goals as goal

pub apply_past-requires-clause-passes : goal.apply_past-requires-clause-passes
apply_past-requires-clause-passes g c =
    subst (λ (t : TurnState). Passes g.P.RunName.is_open c.args.self.now c.args.event None t.taken) (sym c.self.view_is)
    (turn_passes g.P.RunName.is_open c.args.self.now c.args.event c.requires.chosen c.requires.goes_on)
