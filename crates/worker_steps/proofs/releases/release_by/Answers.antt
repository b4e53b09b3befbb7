use Rattle.std.proofs.Common.{ap, sym, ◌∙◌}
use Rattle.protocol.specs.Numbered.{item_at}
use Rattle.protocol.specs.Releases.{may_release}
use Rattle.worker_steps.proofs.Goings.{going_there, on_err}
use Rattle.worker_steps.proofs.releases.release_by.Goals as goal

pub returns-clause-asked : goal.returns-clause-asked
returns-clause-asked c =
    let end = c.end_of-end.ensures.going c.in-Some.found.now c.in-Some.ensures in
    on_err c.release.result
    (λ less. going_there c.args.here.now c.args.serial c.end_of-end.result c.in-Some.found.now
    (sym (ap (λ w. item_at w.objects c.args.serial) c.deref-worker.ensures) ∙ c.in-Some.ensures) end
    (sym (ap (λ w. may_release w c.args.serial c.in-Some.found.now) c.deref-worker.ensures) ∙ sym (c.may_release.ensures end) ∙ c.if-not-may_release.false) less)
    c.release.ensures.asked
