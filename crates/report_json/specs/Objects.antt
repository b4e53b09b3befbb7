-- Prints, and what became of objects, as JSON.
use Rattle.std.specs.Prelude.{List, [], ◌∷◌, codes}
use Rattle.serde_json.specs.Data.{Data, string, object, member, no_members}
use Rattle.meaning.specs.Values.{Id}
use Rattle.event_log.specs.Entries.{Fault, Entry, Printed, Resolved, Released}
use Rattle.report_text.specs.of_report_lines.Texts.{kind_name}
use Rattle.report_json.specs.Values.{id_data, value_data}

abbrev pub print_in : Entry → List Data
print_in (Printed v) = value_data v ∷ []
print_in _ = []

abbrev pub release_in : Entry → List Data
release_in (Released o) = id_data o ∷ []
release_in _ = []

abbrev pub resolve_data : Id → Fault → Data
resolve_data o f =
    object (member (codes "fault") (string (kind_name f.kind)) (member (codes "named") (id_data f.object) (member (codes "object") (id_data o) no_members)))

abbrev pub resolve_in : Entry → List Data
resolve_in (Resolved o f) = resolve_data o f ∷ []
resolve_in _ = []
