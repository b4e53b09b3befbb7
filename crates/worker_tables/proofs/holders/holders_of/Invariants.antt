use Rattle.std.proofs.Common.{◌≡◌, ◌++◌, drop, not}
use Rattle.std.specs.Prelude.{◌&&◌, ◌==◌}
use Rattle.std.specs.List.{filter}
use Rattle.contexts.specs.of_protocol.Sets.{has_id}
use Rattle.contexts.specs.of_protocol.Tables.{holders_of}
use Rattle.worker_tables.proofs.holders.holders_of.Given as goal

abbrev pub invariant-loop-holder : goal.invariant-loop-holder
invariant-loop-holder l =
    l.holders ++ filter (λ e. (e.owner == l.worker) && not (has_id l.object.removed e)) (drop l.holder-index l.holder-items) ≡ holders_of l.worker l.object
