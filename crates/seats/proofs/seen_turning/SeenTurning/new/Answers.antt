use Rattle.std.proofs.Common.{◌++◌, ap, ◌∙◌}
use Rattle.seats.proofs.Given.{none_given}
use Rattle.seats.proofs.seen_turning.SeenTurning.new.Goals as goal

pub follow-requires : goal.follow-requires
follow-requires g c = λ whole.
    let log = c.log.result.now in
    (log, ap (λ seen. seen ++ log) (c.new-log.ensures ∙ c.requires.seen))

pub invariant_of-result : goal.invariant_of-result
invariant_of-result g c = (
  λ whole. c.follow.ensures whole ∙ c.log.ensures.log,
  none_given g.P.RunName.is_open g.P.RunName.plan c.args.turning c.args.tickets c.requires.tickets,
)
