use Rattle.std.proofs.Common.{◌≡◌, ◌≤◌, ◌++◌, string_bytes, drop}
use Rattle.log_words.specs.of_event_log.Words.{births}
use Rattle.log_words.specs.Told.{nothing_told, told_of}
use Rattle.log_text.specs.About.{seen_of}
use Rattle.log_text.specs.Story.{lines_about}
use Rattle.log_text.proofs.story.write_story.Given as goal

abbrev pub invariant-loop-place : goal.invariant-loop-place
invariant-loop-place l = record {
  written : string_bytes l.text ++ lines_about l.contents (seen_of l.subject) (births l.log) (told_of l.told) (drop l.place l.log)
      ≡ string_bytes l.fn.text ++ lines_about l.contents (seen_of l.subject) (births l.log) nothing_told l.log;
  counted : l.told.events ≤ l.place;
}
