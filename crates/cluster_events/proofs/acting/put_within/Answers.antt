use Rattle.std.proofs.Common.{◌+◌, Some, length, sym, ap, ◌∙◌}
use Rattle.std.specs.Prelude.{slice_set}
use Rattle.step_laws.specs.Opens.{fits}
use Rattle.step_laws.proofs.Counts.{restored}
use Rattle.step_laws.proofs.Taken.{worker_stays, worker_taken}
use Rattle.protocol.specs.Cluster.{ClusterState}
use Rattle.cluster_events.proofs.acting.put_within.Goals as goal

-- where no limit is passed, worker and node are put back with what they made
pub returns-then-fits-clause-whole : goal.returns-then-fits-clause-whole
returns-then-fits-clause-whole c =
    let old = c.args.whole.now in
    let e = ap (λ k. fits (length old.nodes) (length old.workers + k) c.args.made) (sym c.from.ensures) ∙ sym c.if-fits.ensures in
    λ before w n was. c.in_ok-leave.ensures.whole ∙ sym (worker_taken before old c.args.made c.args.number c.args.node c.args.here.now e).whole

pub returns-then-fits-clause-entries : goal.returns-then-fits-clause-entries
returns-then-fits-clause-entries c =
    let old = c.args.whole.now in
    let e = ap (λ k. fits (length old.nodes) (length old.workers + k) c.args.made) (sym c.from.ensures) ∙ sym c.if-fits.ensures in
    ap Some c.in_ok-leave.ensures.entries ∙ sym (worker_taken old old c.args.made c.args.number c.args.node c.args.here.now e).entries

-- else they are put back as they were, which is the whole as it was
pub returns-clause-whole : goal.returns-clause-whole
returns-clause-whole c =
    let old = c.args.whole.now in
    let k = c.args.kept in
    let h = c.args.here.now in
    let i = c.args.place in
    let j = c.args.node_place in
    let e = ap (λ n. fits (length old.nodes) (length old.workers + n) c.args.made) (sym c.from.ensures) ∙ sym c.if-fits.ensures in
    λ before w n was.
    c.put_again.ensures
    ∙ ap {A = ClusterState} (λ d. record d { workers = slice_set d.workers i k.worker; nodes = slice_set d.nodes j k.node }) (c.exchange.ensures.left
    ∙ ap {A = ClusterState} (λ d. record d { workers = slice_set d.workers i h.worker; nodes = slice_set d.nodes j h.there.node }) was.0)
    ∙ ap (λ ws. record before { workers = ws; nodes = slice_set (slice_set (slice_set before.nodes j n) j h.there.node) j k.node })
    (restored before.workers i w h.worker k.worker was.1.0)
    ∙ ap (λ ns. record before { nodes = ns }) (restored before.nodes j n h.there.node k.node was.1.1)
    ∙ sym (worker_stays before old c.args.made c.args.number c.args.node c.args.here.now e).whole

pub returns-clause-entries : goal.returns-clause-entries
returns-clause-entries c =
    let old = c.args.whole.now in
    let e = ap (λ n. fits (length old.nodes) (length old.workers + n) c.args.made) (sym c.from.ensures) ∙ sym c.if-fits.ensures in
    sym (worker_stays old old c.args.made c.args.number c.args.node c.args.here.now e).entries
