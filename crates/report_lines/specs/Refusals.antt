-- What a report says of refused events.
use Rattle.std.specs.Prelude.{ℕ, List, [], ◌∷◌, Option, Some, None, ◌++◌, codes}
use Rattle.std.specs.Fmt.{decimal}
use Rattle.log_entries.specs.Refusals.{code_of}
use Rattle.event_log.specs.Entries.{Event, Entry, In, Refused}
use Rattle.report_lines.specs.Texts.{event_text}

-- the last event, after one more entry
abbrev pub last_in : Option Event → Entry → Option Event
last_in last (In e seat) = Some e
last_in last _ = last

-- refused CODE EVENT; a refusal with no event before it, which no legal log has, names none
abbrev pub refused_line : ℕ → Option Event → List ℕ
refused_line code (Some e) = codes "refused " ++ (decimal code ++ (codes " " ++ (event_text e ++ codes "\n")))
refused_line code None = codes "refused " ++ (decimal code ++ codes "\n")

abbrev pub refused_in : Option Event → Entry → List ℕ
refused_in last (Refused r) = refused_line (code_of r) last
refused_in last _ = []

-- the refusals of a log, each with the last event before it; `last` is the last event before the log
abbrev pub refused_lines : Option Event → List Entry → List ℕ
refused_lines last [] = []
refused_lines last (x ∷ log) = refused_in last x ++ refused_lines (last_in last x) log
