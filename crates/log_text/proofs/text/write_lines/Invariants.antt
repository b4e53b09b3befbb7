use Rattle.std.proofs.Common.{◌≡◌, ◌≤◌, ◌++◌, string_bytes, drop}
use Rattle.log_words.specs.of_event_log.Words.{births}
use Rattle.log_words.specs.Told.{told_of}
use Rattle.log_text.specs.Text.{lines, log_text}
use Rattle.log_text.proofs.text.write_lines.Given as goal

-- the text so far with the lines of the rest, told as the log went on; and no more events came than entries
abbrev pub invariant-loop-place : goal.invariant-loop-place
invariant-loop-place l = record {
  written : string_bytes l.text ++ lines l.contents (births l.log) (told_of l.told) (drop l.place l.log) ≡ string_bytes l.fn.text ++ log_text l.contents l.log;
  counted : l.told.events ≤ l.place;
}
