use Rattle.std.proofs.Common.{subst, sym}
use Rattle.seats.specs.Seated.{AreFrom}
use Rattle.seats.specs.Turns.{TurnState}
use Rattle.seats.proofs.shared.Locked.gathered.Goals as goal

pub returns-clause-seated : goal.returns-clause-seated
returns-clause-seated g c = subst (λ (t : TurnState). AreFrom g.P.Watching.seats t.run.log) (sym c.into_turning.ensures) c.args.self.seated
