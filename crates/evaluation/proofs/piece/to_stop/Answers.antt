use Rattle.std.proofs.Common.{sym, subst}
use Rattle.frames.specs.Tasks.{stopped_by}
use Rattle.evaluation.specs.Pieces.{IsBrokenEnd}
use Rattle.evaluation.proofs.Results.{broken_some}
use Rattle.evaluation.proofs.piece.to_stop.Goals as goal

pub returns-in-Broken-clause-broken : goal.returns-in-Broken-clause-broken
returns-in-Broken-clause-broken c =
    λ e. subst (λ h. IsBrokenEnd (stopped_by c.args.count h)) (sym c.in-Broken.is) (broken_some c.args.count c.requires.some)
