use Rattle.step_laws.specs.Cursors.{IsPast}
use Rattle.protocol_core.proofs.cursor.past_delivered.Given as goal

-- every message before the place was delivered
abbrev pub invariant-loop-place : goal.invariant-loop-place
invariant-loop-place l = IsPast l.place l.delivered
