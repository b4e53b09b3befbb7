use Rattle.std.proofs.Common.{◌+◌, Some, length, sym, ap, ◌∙◌}
use Rattle.step_laws.specs.Opens.{fits}
use Rattle.step_laws.proofs.Taken.{reached_stays, reached_taken}
use Rattle.protocol.specs.Cluster.{node_does}
use Rattle.cluster_steps.specs.Reached.{node_received}
use Rattle.cluster_events.proofs.node_events.deliver_to_node_within.Goals as goal

-- a limit would be passed
pub returns-then-not-fits-clause-whole : goal.returns-then-not-fits-clause-whole
returns-then-not-fits-clause-whole c l there =
    let old = c.args.whole.now in
    let e = ap (λ k. fits (length old.nodes) (length old.workers + k) old.made) (sym (c.opened_by-opened.ensures l there)) ∙ sym c.if-not-fits.ensures in
    sym (reached_stays old old.made c.args.number l.sender l.message e).whole

pub returns-then-not-fits-clause-entries : goal.returns-then-not-fits-clause-entries
returns-then-not-fits-clause-entries c l there =
    let old = c.args.whole.now in
    let e = ap (λ k. fits (length old.nodes) (length old.workers + k) old.made) (sym (c.opened_by-opened.ensures l there)) ∙ sym c.if-not-fits.ensures in
    sym (reached_stays old old.made c.args.number l.sender l.message e).entries

-- else the message reaches the node
pub returns-clause-whole : goal.returns-clause-whole
returns-clause-whole c l there =
    let old = c.args.whole.now in
    let e = ap (λ k. fits (length old.nodes) (length old.workers + k) old.made) (sym (c.opened_by-opened.ensures l there)) ∙ sym c.if-not-fits.ensures in
    c.in_ok-deliver_to_node.ensures.whole ∙ ap (λ o. (node_does old c.args.number (λ h. node_received h o)).whole) there
    ∙ sym (reached_taken old old.made c.args.number l.sender l.message e).whole

pub returns-clause-entries : goal.returns-clause-entries
returns-clause-entries c l there =
    let old = c.args.whole.now in
    let e = ap (λ k. fits (length old.nodes) (length old.workers + k) old.made) (sym (c.opened_by-opened.ensures l there)) ∙ sym c.if-not-fits.ensures in
    ap Some (c.in_ok-deliver_to_node.ensures.entries ∙ ap (λ o. (node_does old c.args.number (λ h. node_received h o)).out.entries) there)
    ∙ sym (reached_taken old old.made c.args.number l.sender l.message e).entries
