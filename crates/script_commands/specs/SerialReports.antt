-- What `serial` writes, and its status.
use Rattle.std.specs.Prelude.{◌≡◌, ◌⊎◌, ℕ, List, Option, Some, take}
use Rattle.std.specs.Io.KnownBytes.{Appends}
use Rattle.meaning.specs.Values.{Outcome}
use Rattle.meaning.specs.Syntax.{Script}
use Rattle.report_text.specs.of_report_lines.Main.{status}
use Rattle.report_laws.specs.Serial.{serial_report, serial_status}
use Rattle.script_commands.specs.Scripts.{IsScript}

-- 0 for a value, 1 for a trap
abbrev pub status_of : Outcome → ℕ
status_of c = status (Some c)

-- the text is a script, and its report was written
abbrev pub IsReported : List ℕ → ℕ → Option (List ℕ) → Option (List ℕ) → Type 0
IsReported text status before after =
    (script : Script) × IsScript text script × (status ≡ serial_status script) × Appends before after (serial_report script)

-- nothing was written, or the text is a script, and a beginning of its report was written
abbrev pub IsBegun : List ℕ → Option (List ℕ) → Option (List ℕ) → Type 0
IsBegun text before after = (after ≡ before) ⊎
    ((script : Script) × (k : ℕ) × IsScript text script × Appends before after (take k (serial_report script)))
