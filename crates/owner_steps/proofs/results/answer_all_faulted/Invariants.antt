use Rattle.std.proofs.Common.{◌≡◌}
use Rattle.protocol.specs.Asking.{answers_faulted}
use Rattle.owner_steps.specs.Each.{each_own}
use Rattle.owner_steps.proofs.results.answer_all_faulted.Given as goal

abbrev pub invariant-loop-serial : goal.invariant-loop-serial
invariant-loop-serial l = each_own answers_faulted l.here l.serial l.end ≡ each_own answers_faulted l.initial.here l.from l.end
