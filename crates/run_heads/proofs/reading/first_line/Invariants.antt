use Rattle.std.proofs.Common.{◌≡◌, take, false}
use Rattle.event_files.specs.Reading.{has}
use Rattle.run_heads.proofs.reading.first_line.Given as goal

abbrev pub invariant-loop-place : goal.invariant-loop-place
invariant-loop-place l = has 10 (take l.place l.text) ≡ false
