use Rattle.std.proofs.Common.{◌≡◌}
use Rattle.protocol_data.proofs.attempts.note.Given as goal

abbrev pub invariant-loop-place : goal.invariant-loop-place
invariant-loop-place l = l.all ≡ l.initial.all
