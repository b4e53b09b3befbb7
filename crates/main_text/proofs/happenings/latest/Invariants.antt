use Rattle.std.proofs.Common.{◌≡◌, ◌≤◌, None, drop}
use Rattle.std.specs.Option.{option_map}
use Rattle.why_text.specs.Moments.{first_moment, moment_of}
use Rattle.main_text.specs.Happenings.{latest_from}
use Rattle.main_text.proofs.happenings.latest.Given as goal

-- the last time so far, with the rest of the log, gives the last of all; and no more events came than entries
abbrev pub invariant-loop-place : goal.invariant-loop-place
invariant-loop-place l = record {
  same :
      latest_from l.jobs l.lines l.happening (moment_of l.moment) (option_map moment_of l.last) (drop l.place l.log)
      ≡ latest_from l.jobs l.lines l.happening first_moment None l.log;
  counted : l.moment.number ≤ l.place;
}
