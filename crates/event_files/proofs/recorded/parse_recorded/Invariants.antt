use Rattle.std.proofs.Common.{length}
use Rattle.event_files.specs.Recorded.{IsRecorded, recorded_text}
use Rattle.event_files.proofs.Rows.{IsReadTo}
use Rattle.event_files.proofs.recorded.parse_recorded.Given as goal

-- the lines before the rest are read, as many as the number says, and what they say is kept
abbrev pub invariant-loop-line : goal.invariant-loop-line
invariant-loop-line l = IsReadTo IsRecorded recorded_text l.text l.rest l.events l.number

abbrev pub decreases-loop-line : goal.decreases-loop-line
decreases-loop-line l = length l.rest
