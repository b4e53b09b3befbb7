-- The refused events as JSON: of each the refusal's number and the event.
use Rattle.std.specs.Prelude.{ℕ, List, [], ◌∷◌, ◌++◌, Option, Some, None, codes}
use Rattle.serde_json.specs.Data.{Data, number, unsigned, string, object, member, no_members}
use Rattle.log_entries.specs.Refusals.{code_of}
use Rattle.event_log.specs.Entries.{Event, Entry, Refused}
use Rattle.report_text.specs.of_report_lines.Texts.{event_text}
use Rattle.report_text.specs.of_report_lines.Refusals.{last_in}

-- a refusal with no event before it, which no legal log has, names none
abbrev pub refusal_data : ℕ → Option Event → Data
refusal_data code (Some e) = object (member (codes "code") (number (unsigned code)) (member (codes "event") (string (event_text e)) no_members))
refusal_data code None = object (member (codes "code") (number (unsigned code)) no_members)

abbrev pub refused_in : Option Event → Entry → List Data
refused_in last (Refused r) = refusal_data (code_of r) last ∷ []
refused_in last _ = []

-- the refusals of a log, each with the last event before it; `last` is the last event before the log
abbrev pub refused_data : Option Event → List Entry → List Data
refused_data last [] = []
refused_data last (x ∷ log) = refused_in last x ++ refused_data (last_in last x) log
