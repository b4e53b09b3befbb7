use Rattle.std.proofs.Common.{ap, sym, ◌∙◌}
use Rattle.seats.specs.Views.{choice_of}
use Rattle.seats.proofs.turning.Turning.turn.Goals as goal

pub take-requires-clause-chosen : goal.take-requires-clause-chosen
take-requires-clause-chosen g c = sym c.in-Ok.ensures ∙ ap choice_of c.in-Does.is
