use Rattle.std.proofs.Common.{◌≡◌, take, map}
use Rattle.log_words.specs.Told.{told_of}
use Rattle.timeline.specs.Rows.{row_after}
use Rattle.timeline.proofs.rows.rows_after.Given as goal

abbrev pub invariant-loop-row : goal.invariant-loop-row
invariant-loop-row l = l.new.items ≡ map (row_after (told_of l.told) l.entry l.is_refused) (take l.row-index l.rows)
