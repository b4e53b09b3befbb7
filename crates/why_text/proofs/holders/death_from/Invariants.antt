use Rattle.std.proofs.Common.{◌≡◌, ◌≤◌, drop}
use Rattle.why_text.specs.Moments.{first_moment, moment_of}
use Rattle.why_text.specs.Holders.{death_from}
use Rattle.why_text.proofs.holders.death_from.Given as goal

-- from this moment the rest of the log gives the same death; and no more events came than entries
abbrev pub invariant-loop-place : goal.invariant-loop-place
invariant-loop-place l = record {
  same : death_from l.lines (moment_of l.moment) l.worker l.node (drop l.place l.log) ≡ death_from l.lines first_moment l.worker l.node l.log;
  counted : l.moment.number ≤ l.place;
}
