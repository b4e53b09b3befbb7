-- The texts of faults, with what they mean.
use Rattle.std.specs.Prelude.{ℕ, List, ◌++◌, codes}
use Rattle.report_text.specs.of_event_log.Entries.{FaultKind, OwnerDied, PutLost, RetriesUsed, Fault}
use Rattle.report_text.specs.of_report_lines.Texts.{fault_text}

-- what the kind says of the object in which the fault began
abbrev pub kind_words : FaultKind → List ℕ
kind_words OwnerDied = codes "its owner died"
kind_words PutLost = codes "it was put, and its copy was lost"
kind_words RetriesUsed = codes "every run that it was allowed broke"

-- PutLost o1.1 (it was put, and its copy was lost)
abbrev pub fault_words : Fault → List ℕ
fault_words f = fault_text f ++ (codes " (" ++ (kind_words f.kind ++ codes ")"))
