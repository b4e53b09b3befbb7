use Rattle.std.proofs.Common.{◌≡◌, take, false}
use Rattle.event_files.specs.Reading.{has}
use Rattle.event_files.proofs.parts.parted.Given as goal

-- the byte isn't before the place
abbrev pub invariant-loop-place : goal.invariant-loop-place
invariant-loop-place l = has l.mark (take l.place l.text) ≡ false
