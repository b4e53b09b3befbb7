use Rattle.std.proofs.Common.{◌≡◌, OnOk, Some, ap, subst, sym, ◌∙◌}
use Rattle.protocol.specs.Numbered.{item_at}
use Rattle.protocol.specs.Tables.{task_in, task_of}
use Rattle.protocol.specs.Asking.{asks_next}
use Rattle.owner_steps.proofs.Circles.{same_task}
use Rattle.owner_steps.proofs.again.ask_on.Goals as goal

pub returns-clause-done : goal.returns-clause-done
returns-clause-done c = λ task e.
    let h = c.args.here.now in
    let o = c.args.object in
    let read = c.in-ByTask.task in
    let found = c.in-Some.ensures in
    let there : task_of (item_at h.worker.objects o.serial) ≡ Some read =
    ap (λ i. task_of (item_at h.worker.objects i.serial)) (sym c.object.view_is) ∙ ap (λ w. task_of (item_at w.objects c.object.inside.serial)) (sym c.deref.ensures) ∙ ap task_of found ∙ ap task_in c.in-ByTask.is in
    subst (λ x. OnOk c.ask_next.result (c.ask_next.new.here ≡ asks_next h o x c.args.t c.args.node))
    (same_task _ read task there e) (c.ask_next.ensures.done read there)
