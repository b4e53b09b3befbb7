use Rattle.std.proofs.Common.{◌≡◌, drop}
use Rattle.std.specs.List.{list_any}
use Rattle.trap_sources.specs.Chains.{is_trap}
use Rattle.trap_sources.proofs.chain.has_trap.Given as goal

abbrev pub invariant-loop-content : goal.invariant-loop-content
invariant-loop-content l = list_any is_trap l.contents ≡ list_any is_trap (drop l.content-index l.contents)
