use Rattle.std.proofs.Common.{◌≡◌, OnOk, ap, subst, ◌∙◌}
use Rattle.protocol.specs.Numbered.{item_at}
use Rattle.protocol.specs.Tables.{task_of}
use Rattle.protocol.specs.Asking.{breaks, with_begun}
use Rattle.owner_steps.proofs.Circles.{task_changed}
use Rattle.owner_steps.proofs.again.push_in_vain.Goals as goal

pub returns-clause-done : goal.returns-clause-done
returns-clause-done c = λ task e.
    let o = c.args.object in
    let begun = with_begun task c.args.worker c.args.node in
    let pushed = c.in_ok-push.ensures.done task e in
    let read = ap (λ g. task_of (item_at g.worker.objects o.serial)) pushed ∙ task_changed c.args.here.now.worker.objects o.serial task begun e in
    subst (λ g. OnOk c.break_attempt.result (c.break_attempt.new.here ≡ breaks g o begun)) pushed (c.break_attempt.ensures.done begun read)
