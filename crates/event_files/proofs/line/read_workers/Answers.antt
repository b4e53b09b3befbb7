use Rattle.std.proofs.Common.{◌≡◌, None, Some, sym, ap, ◌∙◌}
use Rattle.event_files.specs.Reading.{worker_in, workers_in}
use Rattle.event_files.proofs.Rows.{shorter}
use Rattle.event_files.proofs.Settles.{after_these, one_more, no_worker, last_worker}
use Rattle.event_files.proofs.line.read_workers.Goals as goal

pub returns-in_default-read_worker : goal.returns-in_default-read_worker
returns-in_default-read_worker c =
    let e : worker_in c.in-Some.word.now ≡ None = cc in
    sym (c.loop-word.invariant ∙ no_worker c.loop-word.workers c.loop-word.rest.now c.in-Some.word.now c.in-Some.after.now c.in-Some.ensures e)

pub loop-word-smaller : goal.loop-word-smaller
loop-word-smaller c = shorter 32 c.loop-word.rest.now c.in-Some.word.now c.in-Some.after.now c.in-Some.ensures

pub loop-word-preserved : goal.loop-word-preserved
loop-word-preserved c =
    let e : worker_in c.in-Some.word.now ≡ Some c.in-Some-read_worker.worker = cc in
    c.loop-word.invariant
    ∙ one_more c.loop-word.workers c.loop-word.rest.now c.in-Some.word.now c.in-Some.after.now c.in-Some-read_worker.worker c.in-Some.ensures e
    ∙ ap (λ z. after_these z (workers_in c.in-Some.after.now)) (sym c.in_ok-push.ensures.ok)

pub returns-in_default-read_worker-2 : goal.returns-in_default-read_worker-2
returns-in_default-read_worker-2 c =
    let e : None ≡ worker_in c.loop-word.rest.now = cc in
    sym (c.loop-word.invariant ∙ last_worker c.loop-word.workers c.loop-word.rest.now None c.in_default.ensures e)

pub returns : goal.returns
returns c =
    let e : Some c.in-Some-read_worker-2.worker ≡ worker_in c.loop-word.rest.now = cc in
    sym (c.loop-word.invariant ∙ last_worker c.loop-word.workers c.loop-word.rest.now (Some c.in-Some-read_worker-2.worker) c.in_default.ensures e
    ∙ ap (λ z. Some z) (sym c.in_ok-push-2.ensures.ok))
