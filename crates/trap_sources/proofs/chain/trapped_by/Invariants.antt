use Rattle.std.proofs.Common.{◌≡◌, drop}
use Rattle.trap_sources.specs.Chains.{trapped_by}
use Rattle.trap_sources.proofs.chain.trapped_by.Given as goal

abbrev pub invariant-loop-entry : goal.invariant-loop-entry
invariant-loop-entry l = trapped_by l.log l.task ≡ trapped_by (drop l.entry-index l.log) l.task
