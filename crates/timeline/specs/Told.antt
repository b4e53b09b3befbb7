-- What has been told with an entry.
use Rattle.std.specs.Prelude.{List}
use Rattle.event_log.specs.Events.{refused_next}
use Rattle.event_log.specs.Entries.{Entry}
use Rattle.log_words.specs.Told.{Told, told_after}

abbrev pub told_with : Told → Entry → List Entry → Told
told_with told x rest = told_after told x (refused_next rest)
