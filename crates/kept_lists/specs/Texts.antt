-- Texts of what was kept of event files and plans: each line stands in the line of its number, and empty lines between them.
use Rattle.std.specs.Prelude.{◌≡◌, ℕ, ◌-◌, List, [], ◌∷◌, ◌++◌, replicate}
use Rattle.event_files.specs.Files.{IsFile}
use Rattle.event_files.specs.Lines.{IsLine, line_text}
use Rattle.event_files.specs.Numbering.{line_numbers}
use Rattle.event_files.specs.Plans.{plan_line_text}
use Rattle.event_files.specs.Recorded.{IsEventFile, header, recorded_text}
use Rattle.event_files.specs.declared.event_file.EventFile.{EventFile}
use Rattle.event_files.specs.declared.event_file.EventFile.TheVariants as files
use Rattle.event_files.specs.declared.line.Line.{Line}
use Rattle.event_files.specs.declared.plan.PlanLine.{PlanLine}
use Rattle.event_reading.specs.Files.{said_numbers}
use Rattle.event_reading.specs.declared.events.KeptEvents.{KeptEvents}
use Rattle.event_reading.specs.declared.kept.Kept.{Kept}

-- the line feeds of the empty lines between the line `last` and the line `number`
abbrev pub feeds : ℕ → ℕ → List ℕ
feeds last number = replicate (number - last - 1) 10

-- each line in the line of its number, behind the line `last`, as far as there are numbers; `text` tells how a line is written
abbrev pub numbered_text : {A : Type 0} → (A → List ℕ) → ℕ → List A → List ℕ → List ℕ
numbered_text text last [] numbers = []
numbered_text text last (a ∷ says) [] = []
numbered_text text last (a ∷ says) (number ∷ numbers) = feeds last number ++ (text a ++ 10 ∷ numbered_text text number says numbers)

-- an event file, by its format
abbrev pub file_text : EventFile → List ℕ → List ℕ
file_text (files.Lines lines) numbers = numbered_text line_text 0 lines numbers
file_text (files.Recorded events) numbers = header ++ numbered_text recorded_text 1 events numbers

abbrev pub plan_line : PlanLine → List ℕ
plan_line p = plan_line_text p ++ 10 ∷ []

-- ---- what such a text says

-- what was kept of an event file, in lines of the same numbers
pub record SaysKept (k : KeptEvents) (text : List ℕ) : Type 0 where
  pub is_file : IsEventFile text k.says
  pub numbered : said_numbers k.says text ≡ k.numbers

-- and of one of format 1
pub record SaysLines (k : Kept Line) (text : List ℕ) : Type 0 where
  pub is_file : IsFile IsLine line_text text k.says
  pub numbered : line_numbers text ≡ k.numbers
