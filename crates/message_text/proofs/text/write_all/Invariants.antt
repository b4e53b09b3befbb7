use Rattle.std.proofs.Common.{◌≡◌, ◌≤◌, ◌++◌, string_bytes, drop}
use Rattle.event_log.specs.Words.{births}
use Rattle.log_words.specs.Told.{told_of}
use Rattle.message_text.specs.Text.{lines_with, log_with_messages}
use Rattle.message_text.proofs.text.write_all.Given as goal

-- the text so far with the lines of the rest, messages among them; and no more events came than entries
abbrev pub invariant-loop-place : goal.invariant-loop-place
invariant-loop-place l = record {
  written :
      string_bytes l.text ++ lines_with l.contents (births l.log) l.envelopes l.sent (told_of l.told) (drop l.place l.log)
      ≡ string_bytes l.fn.text ++ log_with_messages l.contents l.log l.envelopes l.sent;
  counted : l.told.events ≤ l.place;
}
