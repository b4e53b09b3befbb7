use Rattle.std.proofs.Common.{◌≡◌, ◌≤◌, drop}
use Rattle.log_words.specs.Told.{told_of}
use Rattle.timeline.specs.Arrivals.{arrivals_from, arrivals_in}
use Rattle.timeline.proofs.arrivals.arrivals_in.Given as goal

-- the arrivals so far with those of the rest; and no more events came than entries
abbrev pub invariant-loop-place : goal.invariant-loop-place
invariant-loop-place l = record {
  noted : arrivals_from l.sent l.all.items (told_of l.told) (drop l.place l.log) ≡ arrivals_in l.envelopes l.sent l.log;
  counted : l.told.events ≤ l.place;
}
