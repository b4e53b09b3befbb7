use Rattle.std.proofs.Common.{◌≡◌, ◌≤◌, ◌++◌, string_bytes, drop}
use Rattle.event_log.specs.Words.{births}
use Rattle.why_text.specs.Moments.{first_moment, moment_of}
use Rattle.why_text.specs.Runs.{seen_of}
use Rattle.why_text.specs.Text.{sentences}
use Rattle.why_text.proofs.account.write_sentences.Given as goal

-- the text so far with the sentences of the rest, from this moment on; and no more events came than entries
abbrev pub invariant-loop-place : goal.invariant-loop-place
invariant-loop-place l = record {
  written :
      string_bytes l.text
      ++ sentences l.contents (seen_of l.subject) (births l.log) l.lines l.log l.place (moment_of l.moment) (drop l.place l.log)
      ≡ string_bytes l.fn.text ++ sentences l.contents (seen_of l.subject) (births l.log) l.lines l.log 0 first_moment l.log;
  counted : l.moment.number ≤ l.place;
}
