use Rattle.std.proofs.Common.{◌≡◌, IfOk, sym, ap, ◌∙◌, subst}
use Rattle.std.specs.Prelude.{if◌then◌else◌}
use Rattle.step_laws.specs.Limits.{entries_limited}
use Rattle.protocol.specs.Cluster.{moved, node_does}
use Rattle.protocol.specs.Events.{delivered_to}
use Rattle.protocol.specs.Slots.{node_reached}
use Rattle.cluster_events.specs.Told.{if_taken}
use Rattle.cluster_events.proofs.Nodes.{node_entries}
use Rattle.cluster_events.proofs.deliveries.hand_over.Goals as goal

-- a live node
pub returns-else-not-is_live_node-clause-entries : goal.returns-else-not-is_live_node-clause-entries
returns-else-not-is_live_node-clause-entries c l there =
    let old = c.args.whole.now in
    let t = c.deliver_to_node_within in
    let does = node_does old c.in-TheNode.node (λ h. node_reached h l.sender l.message) in
    let is_done = ap (λ b. if b then does else moved old) c.if-not-is_live_node.ensures ∙ sym (ap (delivered_to old l) c.in-TheNode.is) in
    subst (λ m. IfOk t.result (λ taken. if_taken taken t.new.context.out.entries ≡ m))
    (sym (node_entries old c.in-TheNode.node (λ h. node_reached h l.sender l.message)) ∙ ap entries_limited is_done) (t.ensures.entries l there)
