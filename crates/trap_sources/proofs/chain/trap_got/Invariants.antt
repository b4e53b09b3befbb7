use Rattle.std.proofs.Common.{◌≡◌, None, drop}
use Rattle.trap_sources.specs.Chains.{trap_got_from}
use Rattle.trap_sources.proofs.chain.trap_got.Given as goal

abbrev pub invariant-loop-entry : goal.invariant-loop-entry
invariant-loop-entry l =
    trap_got_from l.attempt l.last (drop l.entry-index l.log) ≡ trap_got_from l.attempt None l.log
