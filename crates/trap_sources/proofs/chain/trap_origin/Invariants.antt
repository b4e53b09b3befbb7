use Rattle.std.proofs.Common.{◌≡◌}
use Rattle.trap_sources.specs.Chains.{trap_origin}
use Rattle.trap_sources.proofs.chain.trap_origin.Given as goal

-- from this object, in as many steps as are left, the search ends at the same one
abbrev pub invariant-loop-left : goal.invariant-loop-left
invariant-loop-left l = trap_origin l.log l.left l.at ≡ trap_origin l.log l.most l.fn.object

abbrev pub decreases-loop-left : goal.decreases-loop-left
decreases-loop-left l = l.left
