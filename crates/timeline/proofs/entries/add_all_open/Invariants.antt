use Rattle.std.proofs.Common.{◌≡◌, ◌++◌, map, take}
use Rattle.std.specs.List.{flat_map}
use Rattle.serde_json.specs.View.{view}
use Rattle.event_log.specs.Words.{births}
use Rattle.log_words.specs.Index.{IsIndexOf}
use Rattle.timeline.specs.Endings.{open_data}
use Rattle.timeline.proofs.entries.add_all_open.Given as goal

abbrev pub invariant-loop-row : goal.invariant-loop-row
invariant-loop-row l =
    IsIndexOf l.index l.log → map view l.all.items ≡ map view l.fn.all.items ++ flat_map (open_data l.contents (births l.log) l.clock) (take l.row-index l.rows)
