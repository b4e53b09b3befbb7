use Rattle.std.proofs.Common.{◌≡◌, drop}
use Rattle.protocol.specs.Commits.{bears_all}
use Rattle.commit_steps.proofs.births.bear_all.Given as goal

-- bearing what is left ends as bearing all
abbrev pub invariant-loop-birth : goal.invariant-loop-birth
invariant-loop-birth l = bears_all l.here l.bearer (drop l.birth-index l.birth-items) ≡ bears_all l.initial.here l.bearer l.birth-items
