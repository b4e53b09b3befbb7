use Rattle.std.proofs.Common.{◌≡◌, OnOk, sym, ap, ◌∙◌, subst}
use Rattle.contexts.specs.of_protocol.Slots.{forgets}
use Rattle.contexts.specs.of_protocol.Cluster.{node_does_by}
use Rattle.cluster_steps.proofs.Returns.{node_done}
use Rattle.cluster_steps.proofs.node_steps.node_forgets.Goals as goal

pub returns-in_default-clause-whole : goal.returns-in_default-clause-whole
returns-in_default-clause-whole c = sym (ap (λ o. (node_does_by c.args.whole.now c.args.number (λ h. forgets h c.args.worker) o).whole) c.in_default.ensures.none)

pub returns-in_default-clause-entries : goal.returns-in_default-clause-entries
returns-in_default-clause-entries c =
    ap (λ k. k.out.entries) c.log_nothing.ensures ∙ sym (ap (λ o. (node_does_by c.args.whole.now c.args.number (λ h. forgets h c.args.worker) o).out.entries) c.in_default.ensures.none)

pub returns-clause-whole : goal.returns-clause-whole
returns-clause-whole c =
    let t = c.enter_node in
    subst (λ m. OnOk c.leave_node.result (c.leave_node.new.whole ≡ m.whole))
    (node_done c.args.whole.now t.new.whole c.in-Some.place c.args.number c.args.context.now.node t.new.context.node (λ h. forgets h c.args.worker) t.new.context
    c.killed.new.there c.in-Some.ensures.found.1 c.in-Some.ensures.found.0 t.ensures.left t.ensures.taken t.ensures.there c.in_ok-killed.ensures.step)
    c.leave_node.ensures.whole

pub returns-clause-entries : goal.returns-clause-entries
returns-clause-entries c =
    let t = c.enter_node in
    subst (λ m. OnOk c.leave_node.result (c.leave_node.new.context.out.entries ≡ m.out.entries))
    (node_done c.args.whole.now t.new.whole c.in-Some.place c.args.number c.args.context.now.node t.new.context.node (λ h. forgets h c.args.worker) t.new.context
    c.killed.new.there c.in-Some.ensures.found.1 c.in-Some.ensures.found.0 t.ensures.left t.ensures.taken t.ensures.there c.in_ok-killed.ensures.step)
    c.leave_node.ensures.entries
