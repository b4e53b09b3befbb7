-- How main ended as JSON: a value, a trap, a fault, or open.
use Rattle.std.specs.Prelude.{Option, Some, None, codes}
use Rattle.serde_json.specs.Data.{Data, string, object, member, no_members}
use Rattle.meaning.specs.Values.{Outcome, Val, Trapped}
use Rattle.event_log.specs.Entries.{Fault}
use Rattle.report.specs.MainLines.{trap_name}
use Rattle.report_text.specs.of_report_lines.Texts.{kind_name}
use Rattle.report_json.specs.Values.{id_data, value_data}

abbrev pub end_data : Outcome → Data
end_data (Val v) = object (member (codes "end") (string (codes "value")) (member (codes "value") (value_data v) no_members))
end_data (Trapped t) = object (member (codes "end") (string (codes "trap")) (member (codes "trap") (string (trap_name t)) no_members))

-- of a main that didn't end
abbrev pub unended_data : Option Fault → Data
unended_data (Some f) = object (member (codes "end") (string (codes "fault")) (member (codes "fault") (string (kind_name f.kind))
    (member (codes "named") (id_data f.object) no_members)))
unended_data None = object (member (codes "end") (string (codes "open")) no_members)

abbrev pub main_data : Option Outcome → Option Fault → Data
main_data (Some c) fault = end_data c
main_data None fault = unended_data fault
