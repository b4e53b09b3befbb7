use Rattle.std.proofs.Common.{◌≡◌, OnOk, Some, ap, sym, ◌∙◌, subst}
use Rattle.protocol.specs.Releases.{release_step}
use Rattle.protocol.specs.Steps.{WorkerContext}
use Rattle.cluster_steps.proofs.Returns.{taken_here, worker_done}
use Rattle.worker_acts.specs.Acts.{act_step}
use Rattle.cluster_events.proofs.acting.act.Goals as goal

-- the worker, come into the event with its node, does its part, and both are put back
pub returns-clause-whole : goal.returns-clause-whole
returns-clause-whole c =
    let old = c.args.whole.now in
    let stood = c.get.ensures ∙ ap Some (sym c.deref.ensures) in
    let f : WorkerContext → WorkerContext = act_step c.args.whole.now.network c.args.what.now in
    let t = c.enter in
    let there = c.in-Some.ensures.found in
    let beside = c.in-Some-node_place.ensures.found in
    let begun =
    taken_here old c.in-Some.place c.args.number c.deref.result.now t.new.here.worker t.new.here.there.node t.new.here stood t.ensures.worker_taken
    t.ensures.here in
    subst (λ m. OnOk c.leave.result (c.leave.new.whole ≡ m.whole))
    (worker_done old t.new.whole c.in-Some.place c.in-Some-node_place.node_place c.args.number c.args.here.now.worker c.deref.result.now c.args.here.now.there.node
    t.new.here.there.node f t.new.here c.take_part.new.here there.1 there.0 beside.1 beside.0 t.ensures.left stood t.ensures.node_taken begun
    (c.in_ok-take_part.ensures.done ∙ ap (λ m. release_step (act_step m.network c.args.what.now t.new.here)) t.ensures.left))
    c.leave.ensures.whole

pub returns-clause-entries : goal.returns-clause-entries
returns-clause-entries c =
    let old = c.args.whole.now in
    let stood = c.get.ensures ∙ ap Some (sym c.deref.ensures) in
    let f : WorkerContext → WorkerContext = act_step c.args.whole.now.network c.args.what.now in
    let t = c.enter in
    let there = c.in-Some.ensures.found in
    let beside = c.in-Some-node_place.ensures.found in
    let begun =
    taken_here old c.in-Some.place c.args.number c.deref.result.now t.new.here.worker t.new.here.there.node t.new.here stood t.ensures.worker_taken
    t.ensures.here in
    subst (λ m. OnOk c.leave.result (c.leave.new.here.there.out.entries ≡ m.out.entries))
    (worker_done old t.new.whole c.in-Some.place c.in-Some-node_place.node_place c.args.number c.args.here.now.worker c.deref.result.now c.args.here.now.there.node
    t.new.here.there.node f t.new.here c.take_part.new.here there.1 there.0 beside.1 beside.0 t.ensures.left stood t.ensures.node_taken begun
    (c.in_ok-take_part.ensures.done ∙ ap (λ m. release_step (act_step m.network c.args.what.now t.new.here)) t.ensures.left))
    c.leave.ensures.entries
