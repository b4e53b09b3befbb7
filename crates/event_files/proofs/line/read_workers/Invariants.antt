use Rattle.std.proofs.Common.{◌≡◌, length}
use Rattle.event_files.specs.Reading.{workers_in}
use Rattle.event_files.proofs.Settles.{after_these}
use Rattle.event_files.proofs.line.read_workers.Given as goal

-- the workers so far, before those in the rest, are those in the whole text
abbrev pub invariant-loop-word : goal.invariant-loop-word
invariant-loop-word l = workers_in l.fn.text ≡ after_these l.workers (workers_in l.rest)

abbrev pub decreases-loop-word : goal.decreases-loop-word
decreases-loop-word l = length l.rest
