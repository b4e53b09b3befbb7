use Rattle.std.proofs.Common.{◌≡◌, ℕ, suc, ◌-◌, List, sym, ap, ◌∙◌, slice_get, arith, Some}
use Rattle.std.proofs.lemmas.Option.{slice_get-get_or, slice_get_past}
use Rattle.report_text.specs.of_event_log.Events.{from_one}
use Rattle.log_words.proofs.told.worker_of_job.Goals as goal

given_out : (xs : List ℕ) (j p : ℕ) → j ≡ suc p → from_one xs j ≡ slice_get xs p
given_out xs j p e = ap (from_one xs) e

pub returns-then-place-jobs : goal.returns-then-place-jobs
returns-then-place-jobs c =
    let place : ℕ = c.args.job - 1 in
    sym (given_out c.args.jobs.now c.args.job place (omega (arith, c.if-job-eq0.false))
    ∙ slice_get-get_or c.args.jobs.now place c.index-jobs-place.result c.if-place-jobs.true ∙ ap Some (sym c.index-jobs-place.is))

pub returns : goal.returns
returns c =
    let place : ℕ = c.args.job - 1 in
    sym (given_out c.args.jobs.now c.args.job place (omega (arith, c.if-job-eq0.false)) ∙ slice_get_past c.args.jobs.now place c.if-place-jobs.false)
