-- A log in words: a line for each entry, told as the log goes on.
use Rattle.std.specs.Prelude.{ℕ, List, [], ◌∷◌, ◌++◌}
use Rattle.meaning.specs.Births.{Bearing}
use Rattle.log_words.specs.of_event_log.Entries.{Entry}
use Rattle.log_words.specs.of_event_log.Events.{refused_next}
use Rattle.log_words.specs.of_event_log.Words.{births}
use Rattle.log_words.specs.declared.contents.Contents.{Contents}
use Rattle.log_words.specs.Told.{Told, nothing_told, told_after}
use Rattle.log_text.specs.Entries.{line}

-- the lines of the entries, where `told` is what was told before them
abbrev pub lines : Contents → List Bearing → Told → List Entry → List ℕ
lines how births told [] = []
lines how births told (x ∷ rest) = line how births told x (refused_next rest) ++ lines how births (told_after told x (refused_next rest)) rest

-- a line for each entry; `how` says whether long lists are cut
abbrev pub log_text : Contents → List Entry → List ℕ
log_text how log = lines how (births log) nothing_told log
