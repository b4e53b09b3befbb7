use Rattle.std.proofs.Common.{sym, subst, ◌∙◌}
use Rattle.seats.specs.Ends.{AddUp}
use Rattle.seats.specs.Seated.{AreFrom}
use Rattle.seats.proofs.Books.{of_log}
use Rattle.seats.proofs.shared.Shared.end.Goals as goal

pub returns-clause-ended : goal.returns-clause-ended
returns-clause-ended g c =
    let log = c.gathered.result.run.log in
    let seated : AreFrom c.args.self log = subst (λ n. AreFrom n log) (sym c.self.invariant.1 ∙ c.self.view_is) c.gathered.ensures.seated in (
      c.into_end.ensures.ended,
      of_log (λ l. AddUp g.P.Watching.watched c.args.seats.items l × AreFrom c.args.self l) log
          ((c.gathered.ensures.adds_up, c.gathered.ensures.watched), seated) _ c.into_end.ensures.log,
    )
