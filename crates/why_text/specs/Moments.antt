-- The event at which something happened.
use Rattle.std.specs.Prelude.{ℕ, ◌+◌, List, [], ◌++◌, codes, Option, Some, None, slice_get}
use Rattle.std.specs.Fmt.{decimal}
use Rattle.event_log.specs.Entries.{Event, Entry, In}
use Rattle.report_text.specs.of_report_lines.Texts.{event_text}
use Rattle.why_text.specs.declared.moments.Moment.{Moment as CodeMoment}

-- how many events came, the last of them, and the line of the event file from which it came, if there is one
pub record Moment : Type 0 where
  pub number : ℕ
  pub event : Option Event
  pub line : Option ℕ

abbrev pub moment_of : CodeMoment → Moment
moment_of m = record { number = m.number; event = m.event; line = m.line }

abbrev pub first_moment : Moment
first_moment = record { number = 0; event = None; line = None }

-- `lines` are those of the events, in their order
abbrev pub moment_after : List ℕ → Moment → Entry → Moment
moment_after lines m (In e seat) = record { number = m.number + 1; event = Some e; line = slice_get lines m.number }
moment_after lines m _ = m

unfoldable pub line_note : Option ℕ → List ℕ
line_note None = []
line_note (Some n) = codes ", line " ++ decimal n

unfoldable pub event_note : ℕ → Event → List ℕ
event_note number e = codes " in event " ++ (decimal number ++ (codes " (" ++ event_text e))

unfoldable pub when_event : ℕ → Option ℕ → Option Event → List ℕ
when_event number line None = codes " at the start"
when_event number line (Some e) = event_note number e ++ (line_note line ++ codes ")")

-- in event 6 (kill 2, line 2)
abbrev pub when_text : Moment → List ℕ
when_text m = when_event m.number m.line m.event
