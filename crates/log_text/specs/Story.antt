-- What a log says of one object.
use Rattle.std.specs.Prelude.{ℕ, Bool, if◌then◌else◌, List, [], ◌∷◌, ◌++◌}
use Rattle.meaning.specs.Values.{Id}
use Rattle.meaning.specs.Births.{Bearing}
use Rattle.log_words.specs.of_event_log.Entries.{Entry}
use Rattle.log_words.specs.of_event_log.Events.{refused_next}
use Rattle.log_words.specs.of_event_log.Words.{births}
use Rattle.log_words.specs.declared.contents.Contents.{Contents}
use Rattle.log_words.specs.Told.{Told, nothing_told, told_after}
use Rattle.log_text.specs.Entries.{line}
use Rattle.log_text.specs.Runners.{Subject, subject_of}
use Rattle.log_text.specs.About.{is_shown}

unfoldable pub line_if : Contents → Bool → List Bearing → Told → Entry → Bool → List ℕ
line_if how shown births told x refused = if shown then line how births told x refused else []

-- the lines of the log in words that belong to the object's story; `how` says whether long lists are cut
abbrev pub lines_about : Contents → Subject → List Bearing → Told → List Entry → List ℕ
lines_about how s births told [] = []
lines_about how s births told (x ∷ rest) =
    line_if how (is_shown s x rest) births told x (refused_next rest) ++ lines_about how s births (told_after told x (refused_next rest)) rest

abbrev pub story_text : Contents → Id → List Entry → List ℕ
story_text how o log = lines_about how (subject_of o log) (births log) nothing_told log
