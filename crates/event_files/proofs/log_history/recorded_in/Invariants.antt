use Rattle.std.proofs.Common.{◌≡◌, ◌≤◌, ◌++◌, drop}
use Rattle.event_files.specs.LogHistory.{AreSeated, recorded_from, recorded_in}
use Rattle.event_files.specs.Recorded.{AreRecorded}
use Rattle.event_files.proofs.log_history.recorded_in.Given as goal

-- the events so far with those of the rest of the log; no more claims came than entries; and the events so far may stand in a file
abbrev pub invariant-loop-place : goal.invariant-loop-place
invariant-loop-place l = record {
  found : l.events.items ++ recorded_from l.claims (drop l.place l.log) ≡ recorded_in l.log;
  counted : l.claims ≤ l.place;
  fit : AreSeated l.log → AreRecorded l.events.items;
}
