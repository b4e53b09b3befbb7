-- What a report says of objects.
use Rattle.std.specs.Prelude.{ℕ, List, [], ◌++◌, codes}
use Rattle.event_log.specs.Entries.{Entry, Resolved, Released}
use Rattle.report.specs.ValueTexts.{id_text}
use Rattle.report_lines.specs.Texts.{fault_text}

-- resolved O KIND Z
abbrev pub resolve_in : Entry → List ℕ
resolve_in (Resolved o f) = codes "resolved " ++ (id_text o ++ (codes " " ++ (fault_text f ++ codes "\n")))
resolve_in _ = []

-- released O
abbrev pub release_in : Entry → List ℕ
release_in (Released o) = codes "released " ++ (id_text o ++ codes "\n")
release_in _ = []
