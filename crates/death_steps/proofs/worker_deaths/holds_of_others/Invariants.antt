use Rattle.std.proofs.Common.{◌≡◌, ◌==◌, ◌++◌, drop}
use Rattle.std.specs.Prelude.{not}
use Rattle.std.specs.List.{filter}
use Rattle.death_steps.proofs.worker_deaths.holds_of_others.Given as goal

abbrev pub invariant-loop-hold : goal.invariant-loop-hold
invariant-loop-hold l =
    l.others ++ filter (λ k. not (k.object.owner == l.worker)) (drop l.hold-index l.hold-items)
    ≡ filter (λ k. not (k.object.owner == l.worker)) l.hold-items
