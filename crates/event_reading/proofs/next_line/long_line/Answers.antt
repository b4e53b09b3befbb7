use Rattle.event_reading.proofs.Saying.{cut_over, feed_over, no_settle, settle_ends, settle_said}
use Rattle.std.proofs.Common.{refl, rules}
use Rattle.event_reading.proofs.next_line.long_line.Goals as goal

pub returns-in_default-clause-next : goal.returns-in_default-clause-next
returns-in_default-clause-next g c = no_settle _ c.args.begun.items (search rules)

pub returns-in-Feed-clause-next : goal.returns-in-Feed-clause-next
returns-in-Feed-clause-next g c =
    settle_said c.args.room.now _ _ c.args.begun.items c.read_on.new.line.items c.as_slice-in-Feed.result.now c.in_ok-read_on.field-0 c.in_ok-next-in-Feed.next
    c.in-Feed.is c.as_slice-in-Feed.ensures.value c.in_ok-read_on.ensures.read c.in_ok-next-in-Feed.ensures.said

pub returns-in-Nothing-clause-next : goal.returns-in-Nothing-clause-next
returns-in-Nothing-clause-next g c =
    settle_ends c.args.room.now _ _ c.args.begun.items c.read_on.new.line.items c.in_ok-read_on.field-0 c.in-Nothing.is c.in_ok-read_on.ensures.read

pub returns-in_err-next-in-Feed-clause-refused : goal.returns-in_err-next-in-Feed-clause-refused
returns-in_err-next-in-Feed-clause-refused g c =
    let why = feed_over c.args.room.now _ _ c.args.begun.items c.read_on.new.line.items c.as_slice-in-Feed.result.now c.in_ok-read_on.field-0
    (g.R.Source.failures c.args.reader.now, g.R.Source.failures c.read_on.new.reader) _ c.in_ok-read_on.ensures.unfailed c.in-Feed.is
    c.as_slice-in-Feed.ensures.value c.in_ok-read_on.ensures.read c.in_err-next-in-Feed.ensures.refused in
    search (rules, why)

pub returns-clause-refused : goal.returns-clause-refused
returns-clause-refused g c = (
  refl,
  cut_over c.args.room.now _ _ c.args.begun.items c.read_on.new.line.items c.in-Some._workers.now c.in_ok-read_on.field-0 c.in-Cut.is (search rules)
      c.in_ok-read_on.ensures.read,
)
