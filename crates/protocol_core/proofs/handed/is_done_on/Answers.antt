use Rattle.std.proofs.Common.{◌∙◌, ap, sym, subst}
use Rattle.protocol_core.specs.SameJobs.{HasItsAnswers}
use Rattle.protocol.specs.Jobs.{JobRecord}
use Rattle.protocol.specs.Tables.{Worker}
use Rattle.protocol.specs.Numbered.{item_at}
use Rattle.protocol_core.proofs.handed.is_done_on.Goals as goal

pub is_own_job-requires-clause-pace : goal.is_own_job-requires-clause-pace
is_own_job-requires-clause-pace g c =
    let number = c.from.ensures ∙ ap (λ (x : JobRecord). x.worker) c.given.view_is in
    let there = ap (λ n. item_at c.args.whole.now.workers n) (sym number) ∙ ap (λ ws. item_at ws c.from.result) (sym c.rows.ensures) ∙ c.in-Some-item_at_number.ensures in
    let live = ap (λ (x : Worker). x.is_live) (sym c.deref-2.ensures) ∙ c.if-not-deref.false in
    let runs = ap (λ (x : Worker). x.run) (sym c.deref.ensures) ∙ c.in-Some-run.is in
    c.requires.pace c.in-Some.given.now.worker c.in-Some-item_at_number.worker.now c.in-Some-run.run' there live runs

pub is_own_job-requires-clause-answers : goal.is_own_job-requires-clause-answers
is_own_job-requires-clause-answers g c =
    let number = c.from.ensures ∙ ap (λ (x : JobRecord). x.worker) c.given.view_is in
    let there = ap (λ n. item_at c.args.whole.now.workers n) (sym number) ∙ ap (λ ws. item_at ws c.from.result) (sym c.rows.ensures) ∙ c.in-Some-item_at_number.ensures in
    let live = ap (λ (x : Worker). x.is_live) (sym c.deref-2.ensures) ∙ c.if-not-deref.false in
    let runs = ap (λ (x : Worker). x.run) (sym c.deref.ensures) ∙ c.in-Some-run.is in
    let own = c.requires.own c.if-is_own.true c.in-Some.given.now.worker c.in-Some-item_at_number.worker.now c.in-Some-run.run' there live runs in
    subst (λ j. HasItsAnswers j c.in-Some-run.run') (sym c.job-then-is_own.ensures.value) own

pub is_job_in_pace-requires : goal.is_job_in_pace-requires
is_job_in_pace-requires g c =
    let number = c.from.ensures ∙ ap (λ (x : JobRecord). x.worker) c.given.view_is in
    let there = ap (λ n. item_at c.args.whole.now.workers n) (sym number) ∙ ap (λ ws. item_at ws c.from.result) (sym c.rows.ensures) ∙ c.in-Some-item_at_number.ensures in
    let live = ap (λ (x : Worker). x.is_live) (sym c.deref-2.ensures) ∙ c.if-not-deref.false in
    let runs = ap (λ (x : Worker). x.run) (sym c.deref.ensures) ∙ c.in-Some-run.is in
    c.requires.pace c.in-Some.given.now.worker c.in-Some-item_at_number.worker.now c.in-Some-run.run' there live runs
