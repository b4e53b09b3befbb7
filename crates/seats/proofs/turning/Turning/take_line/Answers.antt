use Rattle.std.proofs.Common.{None, subst, sym}
use Rattle.seats.specs.Outside.{Passes}
use Rattle.seats.proofs.Passing.{line_passes}
use Rattle.seats.proofs.turning.Turning.take_line.Goals as goal

pub apply_past-requires-clause-passes : goal.apply_past-requires-clause-passes
apply_past-requires-clause-passes g c =
    subst (λ taken. Passes g.P.RunName.is_open c.args.self.now c.args.event None taken) (sym c.past_line-past.ensures)
    (line_passes g.P.RunName.is_open c.args.self.now c.args.event c.requires.chosen c.requires.goes_on)
