use Rattle.std.proofs.Common.{◌≡◌, ◌-◌}
use Rattle.protocol.specs.Sets.{repeated}
use Rattle.protocol.specs.Tables.{Beside, new_object}
use Rattle.protocol.specs.Commits.{with_objects}
use Rattle.commit_steps.proofs.births.add_others.Given as goal

-- adding the further results that are left ends as adding all
abbrev pub invariant-loop-turn : goal.invariant-loop-turn
invariant-loop-turn l =
    with_objects l.here (repeated (l.others - l.turn) (new_object (Beside l.fn.first) l.bearer l.ids))
    ≡ with_objects l.initial.here (repeated l.others (new_object (Beside l.fn.first) l.bearer l.ids))
