use Rattle.std.proofs.Common.{◌≡◌, OnOk, ap, refl, subst}
use Rattle.meaning.specs.Values.{Id}
use Rattle.commit_steps.proofs.Borne.{borne}
use Rattle.commit_steps.proofs.births.bear_task.Goals as goal

pub returns-clause-done : goal.returns-clause-done
returns-clause-done c = λ count.
    subst (λ g. OnOk c.request_first.result (c.request_first.new.here ≡ g))
    (borne c.args.here.now c.add_first.new.here c.add_others.new.here c.hold_all.new.here c.args.bearer c.args.object c.object.inside.serial c.args.spec.now
    c.args.others _ c.args.ids.now count (ap (λ (o : Id). o.serial) c.object.view_is) refl
    c.in_ok-add_first.ensures.done c.in_ok-add_others.ensures.done c.in_ok-hold_all.ensures.done)
    c.request_first.ensures.done
