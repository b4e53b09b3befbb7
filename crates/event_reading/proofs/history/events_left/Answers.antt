use Rattle.std.proofs.Common.{subst, refl, ◌∙◌}
use Rattle.event_files.specs.Recorded.{IsRecorded, recorded_in, recorded_text}
use Rattle.event_files.proofs.Histories.{reads_recorded}
use Rattle.event_reading.specs.Files.{each_is_event}
use Rattle.event_reading.specs.Known.{IfKnown, left_of}
use Rattle.event_reading.specs.Rows.{IsNextLine}
use Rattle.event_reading.proofs.Reading.{behind_is_bad, reading_begins, reading_ends, reading_passes, reading_says}
use Rattle.event_reading.proofs.history.events_left.Goals as goal

pub returns-in-End-clause-read : goal.returns-in-End-clause-read
returns-in-End-clause-read g c =
    let next = subst (λ w. IfKnown (left_of c.loop-number.ahead.items (g.R.Source.left c.loop-number.reader))
    (left_of c.next_recorded.new.ahead.items (g.R.Source.left c.next_recorded.new.reader)) (IsNextLine IsRecorded recorded_text recorded_in w)) c.in-End.is c.in_ok-next_recorded.ensures.next in
    reading_ends each_is_event IsRecorded recorded_text recorded_in 2 c.loop-number.number c.loop-number.kept _ _ _ c.loop-number.invariant.1 next

pub returns-in-Bad-clause-refused : goal.returns-in-Bad-clause-refused
returns-in-Bad-clause-refused g c =
    let next = subst (λ w. IfKnown (left_of c.loop-number.ahead.items (g.R.Source.left c.loop-number.reader))
    (left_of c.next_recorded.new.ahead.items (g.R.Source.left c.next_recorded.new.reader)) (IsNextLine IsRecorded recorded_text recorded_in w)) c.in-Bad.is c.in_ok-next_recorded.ensures.next in
    behind_is_bad c.loop-number.number c.loop-number.kept _ _ _ c.loop-number.invariant.1 next

pub loop-number-preserved-in-Passed : goal.loop-number-preserved-in-Passed
loop-number-preserved-in-Passed g c =
    let next = subst (λ w. IfKnown (left_of c.loop-number.ahead.items (g.R.Source.left c.loop-number.reader))
    (left_of c.next_recorded.new.ahead.items (g.R.Source.left c.next_recorded.new.reader)) (IsNextLine IsRecorded recorded_text recorded_in w)) c.in-Passed.is c.in_ok-next_recorded.ensures.next in
    (c.in_ok-next_recorded.ensures.unfailed ∙ c.loop-number.invariant.0, reading_passes each_is_event IsRecorded recorded_text recorded_in 2 c.loop-number.number c.loop-number.kept _ _ _ c.loop-number.invariant.1 next)

pub loop-number-preserved : goal.loop-number-preserved
loop-number-preserved g c =
    let next = subst (λ w. IfKnown (left_of c.loop-number.ahead.items (g.R.Source.left c.loop-number.reader))
    (left_of c.next_recorded.new.ahead.items (g.R.Source.left c.next_recorded.new.reader)) (IsNextLine IsRecorded recorded_text recorded_in w)) c.in-Said.is c.in_ok-next_recorded.ensures.next in
    (c.in_ok-next_recorded.ensures.unfailed ∙ c.loop-number.invariant.0, reading_says each_is_event IsRecorded recorded_text recorded_in reads_recorded 2 c.loop-number.number c.loop-number.kept c.keep.new.self c.in-Said.said _ _ _ c.loop-number.invariant.1 next (λ all numbers. c.in_ok-keep-in-Said.ensures.done each_is_event all numbers refl))

pub loop-number-init : goal.loop-number-init
loop-number-init g c = (refl, reading_begins each_is_event IsRecorded recorded_text 2 c.new-kept.result _ (c.new-kept.ensures each_is_event))
