use Rattle.std.proofs.Common.{◌≡◌, ◌≤◌, ◌++◌, [], map, drop}
use Rattle.serde_json.specs.View.{view}
use Rattle.event_log.specs.Words.{births}
use Rattle.log_words.specs.Told.{nothing_told, told_of}
use Rattle.timeline.specs.Entries.{entries_data}
use Rattle.timeline.proofs.entries.add_each.Given as goal

-- the marks so far with those of the rest, where the rows stand as they are; and no more events came than entries
abbrev pub invariant-loop-place : goal.invariant-loop-place
invariant-loop-place l = record {
  added : map view l.all.items
      ++ entries_data l.contents (births l.log) l.envelopes l.sent l.arrivals (told_of l.told) l.rows.items (drop l.place l.log)
      ≡ map view l.fn.all.items ++ entries_data l.contents (births l.log) l.envelopes l.sent l.arrivals nothing_told [] l.log;
  counted : l.told.events ≤ l.place;
}
