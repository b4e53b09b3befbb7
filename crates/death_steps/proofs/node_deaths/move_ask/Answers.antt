use Rattle.std.proofs.Common.{◌≡◌, OnOk, Some, subst, sym, ap, ◌∙◌}
use Rattle.protocol.specs.Numbered.{item_at}
use Rattle.protocol.specs.Tables.{task_in, task_of}
use Rattle.death_steps.proofs.Moves.{moved}
use Rattle.death_steps.proofs.node_deaths.move_ask.Goals as goal

pub returns-clause-done : goal.returns-clause-done
returns-clause-done c =
    let h = c.args.here.now in
    let task = c.in-ByTask.task in
    let found = ap (λ w. item_at w.objects c.args.serial) (sym c.deref.ensures) ∙ c.in-Some.ensures in
    let made = c.in-ByTask.is in
    let known : task_of (item_at h.worker.objects c.args.serial) ≡ Some task = ap task_of found ∙ ap task_in made in
    subst (λ g. OnOk c.ask_next.result (c.ask_next.new.here ≡ g))
    (sym (moved h c.args.node c.args.serial c.in-Some.found.now task c.in-AskedAt.t c.in-AskedAt.asked found made c.in-AskedAt.is c.if-not-is.ensures))
    (c.ask_next.ensures.done task known)
