use Rattle.std.proofs.Common.{◌≡◌}
use Rattle.protocol.specs.Asking.{resolves_used}
use Rattle.owner_steps.specs.Each.{each_own}
use Rattle.owner_steps.proofs.results.resolve_all_used.Given as goal

abbrev pub invariant-loop-serial : goal.invariant-loop-serial
invariant-loop-serial l = each_own resolves_used l.here l.serial l.end ≡ each_own resolves_used l.initial.here l.from l.end
