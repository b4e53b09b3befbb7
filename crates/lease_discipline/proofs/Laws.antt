-- What follows of leases that are in order.
use Rattle.std.proofs.Common.{◌≡◌, ℕ, Some, Option, ap, sym, subst, ◌∙◌}
use Rattle.std.specs.Prelude.{false, true}
use Rattle.meaning.specs.Values.{Birth}
use Rattle.event_log.specs.Entries.{Attempt}
use Rattle.protocol_laws.specs.of_protocol.Messages.{Endpoint, Push, TheWorker, envelope}
use Rattle.protocol_laws.specs.of_protocol.Nodes.{Node}
use Rattle.protocol_laws.specs.of_protocol.Numbered.{item_at}
use Rattle.protocol_laws.specs.of_protocol.Tables.{Worker}
use Rattle.protocol_laws.specs.of_protocol.Cluster.{ClusterState, node_at, worker_at}
use Rattle.protocol_laws.specs.of_protocol_owed.Courses.{has_begun}
use Rattle.lease_discipline.specs.Discipline.{Gave, IsOfNode, IsPromised, IsPushed, KeepsLeases}
use Rattle.lease_discipline.specs.Law.{EventsKeepLeases, OpeningKeepsLeases, PushesFindFree}
use Rattle.lease_discipline.proofs.Events.{among_at, events_keep}
use Rattle.lease_discipline.proofs.Opening.{opens}

pub opening_keeps_leases : OpeningKeepsLeases
opening_keeps_leases nodes slots some = opens nodes slots some

pub events_keep_leases : EventsKeepLeases
events_keep_leases c e handed k = events_keep c e handed k

-- a Push of an attempt that a live worker never began finds the worker promised to it, on its own node
pub promise : (c : ClusterState) → KeepsLeases c → (k w : ℕ) (from : Endpoint) (a : Attempt) (spec : Birth) (x : Worker) (node : Node) →
    item_at c.network k ≡ Some (envelope from (TheWorker w) (Push a spec)) → worker_at c w ≡ Some x → node_at c x.node ≡ Some node → x.is_live ≡ true →
    has_begun a x.began ≡ false →
    IsPromised node.scheduler w x a
promise c keeps k w from a spec x node sent at home live unbegun =
    let pushed : IsPushed c.network from w a = keeps.workers.envelopes (envelope from (TheWorker w) (Push a spec))
    (among_at c.network k (envelope from (TheWorker w) (Push a spec)) sent) in
    let gave = pushed.given in
    let i : IsOfNode (worker_at c) pushed.node w = keeps.workers.envelopes _ gave.1 in
    let f : ◌≡◌ {A = Option Worker} (Some i.worker) (Some x) = sym i.there ∙ at in
    let is : i.worker ≡ x = cc in
    let same : x.node ≡ pushed.node = ap (λ (y : Worker). y.node) (sym is) ∙ i.home in
    (keeps.nodes x.node node home).promised w x a at live (subst (λ n. Gave c.network n a w) (sym same) gave) unbegun

pub pushes_find_free : PushesFindFree
pushes_find_free c keeps k w from a spec x sent at live unbegun = let h =
    keeps.homes w x at in (promise c keeps k w from a spec x h.0 sent at h.1 live unbegun).free
