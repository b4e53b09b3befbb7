use Rattle.std.proofs.Common.{Some, ap, sym, ◌∙◌, arith}
use Rattle.settling.proofs.Places.{job_there, jobs_on, no_job_further, no_job_there}
use Rattle.settling.proofs.commits.first_job.Goals as goal

pub returns-then-next-count : goal.returns-then-next-count
returns-then-next-count c =
    let workers = c.args.workers.now in
    sym
    (sym c.loop-turn.invariant.0
    ∙ jobs_on c.args.but.now workers c.loop-turn.place c.next_out-next.result c.next_out-next.ensures.on c.next_out-next.ensures.rest
    ∙ no_job_further c.args.but.now c.next_out-next.result workers (omega arith))

pub returns-in-Some : goal.returns-in-Some
returns-in-Some c =
    let workers = c.args.workers.now in
    sym (job_there c.args.but.now c.next_out-next.result c.in-Some.job workers c.deref.result.now (c.get.ensures ∙ ap Some (sym c.deref.ensures)) (sym c.in-Some.ensures))
    ∙ sym (jobs_on c.args.but.now workers c.loop-turn.place c.next_out-next.result c.next_out-next.ensures.on c.next_out-next.ensures.rest)
    ∙ c.loop-turn.invariant.0

pub loop-turn-preserved : goal.loop-turn-preserved
loop-turn-preserved c =
    let workers = c.args.workers.now in (
      sym (no_job_there c.args.but.now c.next_out-next.result workers c.deref.result.now (c.get.ensures ∙ ap Some (sym c.deref.ensures)) (sym c.in_default.ensures))
          ∙ sym (jobs_on c.args.but.now workers c.loop-turn.place c.next_out-next.result c.next_out-next.ensures.on c.next_out-next.ensures.rest)
          ∙ c.loop-turn.invariant.0,
      omega arith,
    )
