use Rattle.std.proofs.Common.{subst}
use Rattle.run_paths.specs.of_protocol_board.Cores.{IsOfLog}
use Rattle.segment.specs.Jobs.{Done}
use Rattle.seats.proofs.Seen.{job_is_own}
use Rattle.seats.proofs.seen_job.SeenDone.of.Goals as goal

pub returns-then-goes_on_from-clause-own : goal.returns-then-goes_on_from-clause-own
returns-then-goes_on_from-clause-own g c = λ same.
    let log = c.args.log.now.seen in
    subst (λ (d : Done). IsOfLog log d.job) c.self.view_is
    (job_is_own c.self.inside.seen log c.self.inside.done.job (c.goes_on_from.ensures.goes_on c.if-goes_on_from.true) (c.self.invariant.0 c.if-is_own.true))
