use Rattle.std.proofs.Common.{◌≡◌}
use Rattle.protocol.specs.Locations.{answers_settled}
use Rattle.owner_steps.specs.Each.{each_own}
use Rattle.owner_steps.proofs.results.answer_all_settled.Given as goal

abbrev pub invariant-loop-serial : goal.invariant-loop-serial
invariant-loop-serial l = each_own answers_settled l.here l.serial l.end ≡ each_own answers_settled l.initial.here l.from l.end
