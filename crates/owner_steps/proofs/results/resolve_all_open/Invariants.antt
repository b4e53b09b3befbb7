use Rattle.std.proofs.Common.{◌≡◌}
use Rattle.protocol.specs.Ends.{resolves_open}
use Rattle.owner_steps.specs.Each.{each_own}
use Rattle.owner_steps.proofs.results.resolve_all_open.Given as goal

abbrev pub invariant-loop-serial : goal.invariant-loop-serial
invariant-loop-serial l = each_own (resolves_open l.why) l.here l.serial l.end ≡ each_own (resolves_open l.why) l.initial.here l.from l.end
