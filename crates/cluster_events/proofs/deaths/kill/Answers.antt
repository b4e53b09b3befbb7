use Rattle.std.proofs.Common.{◌+◌, Some, length, sym, ap, ◌∙◌}
use Rattle.step_laws.specs.Opens.{fits}
use Rattle.protocol.specs.Slots.{forgets}
use Rattle.protocol.specs.Cluster.{node_does}
use Rattle.cluster_events.proofs.Dying.{dies}
use Rattle.cluster_events.proofs.deaths.kill.Goals as goal

pub returns-clause-whole : goal.returns-clause-whole
returns-clause-whole c =
    let old = c.args.whole.now in
    let stood = c.get.ensures ∙ ap Some (sym c.deref.ensures) in
    let x = c.deref.result.now in
    let e = c.if-not-fits.ensures ∙ ap (λ k. fits (length old.nodes) (length old.workers + k) old.made) c.in_ok-opened.ensures in
    let d = dies old c.in-Some.place c.args.number x c.in-Some.ensures.found.0 stood e in
    c.in_ok-forget_at_node.ensures.whole ∙ ap (λ b. (node_does b x.node (λ h. forgets h c.args.number)).whole) c.mark_dead.ensures ∙ sym d.whole

pub returns-clause-entries : goal.returns-clause-entries
returns-clause-entries c =
    let old = c.args.whole.now in
    let stood = c.get.ensures ∙ ap Some (sym c.deref.ensures) in
    let x = c.deref.result.now in
    let e = c.if-not-fits.ensures ∙ ap (λ k. fits (length old.nodes) (length old.workers + k) old.made) c.in_ok-opened.ensures in
    let d = dies old c.in-Some.place c.args.number x c.in-Some.ensures.found.0 stood e in
    ap Some (c.in_ok-forget_at_node.ensures.entries ∙ ap (λ b. (node_does b x.node (λ h. forgets h c.args.number)).out.entries) c.mark_dead.ensures)
    ∙ sym d.entries
