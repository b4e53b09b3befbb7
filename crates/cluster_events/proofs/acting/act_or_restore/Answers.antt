use Rattle.std.proofs.Common.{◌≡◌, OnOk, IfOk, Some, sym, ap, ◌∙◌, subst}
use Rattle.step_laws.specs.Limits.{entries_within, whole_within}
use Rattle.step_laws.proofs.Taken.{nothing_whole}
use Rattle.protocol.specs.Releases.{release_step}
use Rattle.protocol.specs.Steps.{WorkerContext}
use Rattle.cluster_steps.proofs.Returns.{taken_here, worker_done, worker_none}
use Rattle.worker_acts.specs.Acts.{act_step}
use Rattle.cluster_events.specs.Told.{if_taken}
use Rattle.cluster_events.proofs.acting.act_or_restore.Goals as goal

-- without a worker of that number nothing is done, and no limit is passed
pub returns-in_default-clause-whole : goal.returns-in_default-clause-whole
returns-in_default-clause-whole c =
    let old = c.args.whole.now in
    let e = worker_none old c.args.number (act_step c.args.whole.now.network c.args.what.now) c.in_default.ensures.none in
    sym (ap (whole_within c.args.made old) e ∙ nothing_whole old c.args.made)

pub returns-in_default-clause-entries : goal.returns-in_default-clause-entries
returns-in_default-clause-entries c =
    let old = c.args.whole.now in
    let e = worker_none old c.args.number (act_step c.args.whole.now.network c.args.what.now) c.in_default.ensures.none in
    c.nothing.ensures ∙ sym (ap (entries_within c.args.made) e)

-- else the worker, come into the event with its node, does its part and is put back, or both stand as they were
pub returns-in-Ok-clause-whole : goal.returns-in-Ok-clause-whole
returns-in-Ok-clause-whole c =
    let old = c.args.whole.now in
    let stood = c.get.ensures ∙ ap Some (sym c.deref.ensures) in
    let f : WorkerContext → WorkerContext = act_step c.args.whole.now.network c.args.what.now in
    let t = c.enter in
    let there = c.in-Some.ensures.found in
    let beside = c.in-Some-node_place.ensures.found in
    let begun =
    taken_here old c.in-Some.place c.args.number c.deref.result.now t.new.here.worker t.new.here.there.node t.new.here stood t.ensures.worker_taken
    t.ensures.here in
    subst (λ m. OnOk c.put_within.result (c.put_within.new.whole ≡ whole_within c.args.made old m))
    (worker_done old t.new.whole c.in-Some.place c.in-Some-node_place.node_place c.args.number c.args.here.now.worker c.deref.result.now c.args.here.now.there.node
    t.new.here.there.node f t.new.here c.take_part.new.here there.1 there.0 beside.1 beside.0 t.ensures.left stood t.ensures.node_taken begun
    (subst (λ r. OnOk r (c.take_part.new.here ≡ release_step (act_step t.new.whole.network c.args.what.now t.new.here))) c.in-Ok.is c.take_part.ensures.done
    ∙ ap (λ m. release_step (act_step m.network c.args.what.now t.new.here)) t.ensures.left))
    (c.put_within.ensures.whole old c.args.here.now.worker c.args.here.now.there.node (t.ensures.left, c.in_ok-kept.ensures))

pub returns-in-Ok-clause-entries : goal.returns-in-Ok-clause-entries
returns-in-Ok-clause-entries c =
    let old = c.args.whole.now in
    let stood = c.get.ensures ∙ ap Some (sym c.deref.ensures) in
    let f : WorkerContext → WorkerContext = act_step c.args.whole.now.network c.args.what.now in
    let t = c.enter in
    let there = c.in-Some.ensures.found in
    let beside = c.in-Some-node_place.ensures.found in
    let begun =
    taken_here old c.in-Some.place c.args.number c.deref.result.now t.new.here.worker t.new.here.there.node t.new.here stood t.ensures.worker_taken
    t.ensures.here in
    subst (λ m. IfOk c.put_within.result (λ taken. if_taken taken c.put_within.new.here.there.out.entries ≡ entries_within c.args.made m))
    (worker_done old t.new.whole c.in-Some.place c.in-Some-node_place.node_place c.args.number c.args.here.now.worker c.deref.result.now c.args.here.now.there.node
    t.new.here.there.node f t.new.here c.take_part.new.here there.1 there.0 beside.1 beside.0 t.ensures.left stood t.ensures.node_taken begun
    (subst (λ r. OnOk r (c.take_part.new.here ≡ release_step (act_step t.new.whole.network c.args.what.now t.new.here))) c.in-Ok.is c.take_part.ensures.done
    ∙ ap (λ m. release_step (act_step m.network c.args.what.now t.new.here)) t.ensures.left))
    c.put_within.ensures.entries
