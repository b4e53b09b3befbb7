use Rattle.std.proofs.Common.{◌≡◌, drop}
use Rattle.why_text.specs.Runs.{is_killed_in}
use Rattle.why_text.proofs.runs.is_killed_in.Given as goal

abbrev pub invariant-loop-place : goal.invariant-loop-place
invariant-loop-place l = is_killed_in l.worker l.log ≡ is_killed_in l.worker (drop l.place l.log)
