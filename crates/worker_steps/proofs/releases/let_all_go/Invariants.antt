use Rattle.std.proofs.Common.{◌≡◌, ◌-◌}
use Rattle.protocol.specs.Releases.{lets_all_go}
use Rattle.protocol.specs.Steps.{each_from, own_id, own_object}
use Rattle.worker_steps.proofs.releases.let_all_go.Given as goal

-- going through the objects that are left ends as going through all
abbrev pub invariant-loop-serial : goal.invariant-loop-serial
invariant-loop-serial l =
    each_from (λ g i. lets_all_go g (own_id g i) (own_object g i)) l.here l.serial (l.end - l.serial)
    ≡ each_from (λ g i. lets_all_go g (own_id g i) (own_object g i)) l.initial.here l.from (l.end - l.from)
