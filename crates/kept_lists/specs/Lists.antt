-- What a text that is made of an event file or a plan says of it.
use Rattle.std.specs.Prelude.{ℕ, List}
use Rattle.event_files.specs.Files.{IsFile}
use Rattle.event_files.specs.Plans.{IsPlanLine, plan_line_text}
use Rattle.event_files.specs.declared.line.Line.{Line}
use Rattle.event_files.specs.declared.plan.PlanLine.{PlanLine}
use Rattle.event_reading.specs.Files.{AreEventsKept, AreLinesKept}
use Rattle.event_reading.specs.declared.events.KeptEvents.{KeptEvents}
use Rattle.event_reading.specs.declared.kept.Kept.{Kept}
use Rattle.kept_lists.specs.Texts.{SaysKept, SaysLines}

-- the text says, in lines of the same numbers, what the bytes of an event file say, as far as a replay may go
pub record IsTextOf (bytes text : List ℕ) : Type 0 where
  pub kept : KeptEvents
  pub are_kept : AreEventsKept bytes kept
  pub says : SaysKept kept text

-- so of a file of format 1
pub record IsPlainTextOf (bytes text : List ℕ) : Type 0 where
  pub kept : Kept Line
  pub are_kept : AreLinesKept bytes kept
  pub says : SaysLines kept text

-- the text is a plan that says what the bytes of a plan say
pub record IsPlanTextOf (bytes text : List ℕ) : Type 0 where
  pub lines : List PlanLine
  pub are_lines : IsFile IsPlanLine plan_line_text bytes lines
  pub says : IsFile IsPlanLine plan_line_text text lines
