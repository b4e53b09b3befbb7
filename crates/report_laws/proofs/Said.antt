-- What a report says of main's prints is what main has printed.
use Rattle.std.proofs.Common.{◌≡◌, ◌∙◌, List, [], ◌∷◌, ◌++◌, map, refl, ap, append_assoc}
use Rattle.std.specs.Prelude.{codes}
use Rattle.std.specs.List.{flat_map}
use Rattle.meaning.specs.Births.{same_id}
use Rattle.event_log.specs.Entries.{Entry, In, Refused, Opened, Begun, Born, Got, Printed, Ended, Accepted, Faulted, Resolved, Released, main_attempt}
use Rattle.event_log.specs.Words.{same_attempt, printed_by}
use Rattle.report.specs.ValueTexts.{value_text}
use Rattle.report.specs.MainLines.{print_lines}
use Rattle.report_text.specs.of_report_lines.Main.{print_in}
use Rattle.report_json.specs.Values.{value_data}
use Rattle.report_json.specs.Objects.{print_in as print_data_in}

pub lines_said : (log : List Entry) → flat_map print_in log ≡ print_lines (printed_by main_attempt log)
unfolding same_attempt same_id
lines_said [] = refl
lines_said (In e seat ∷ log) = lines_said log
lines_said (Refused r ∷ log) = lines_said log
lines_said (Opened w n ∷ log) = lines_said log
lines_said (Begun a w ∷ log) = lines_said log
lines_said (Born o a b ∷ log) = lines_said log
lines_said (Got a y c ∷ log) = lines_said log
lines_said (Printed v ∷ log) =
    ap (λ t. codes "print " ++ t) (append_assoc (value_text v) (codes "\n") (flat_map print_in log))
    ∙ ap (λ t. codes "print " ++ (value_text v ++ (codes "\n" ++ t))) (lines_said log)
lines_said (Ended a cs ∷ log) = lines_said log
lines_said (Accepted a ∷ log) = lines_said log
lines_said (Faulted a y f ∷ log) = lines_said log
lines_said (Resolved o f ∷ log) = lines_said log
lines_said (Released o ∷ log) = lines_said log

-- the same as JSON
pub prints_said : (log : List Entry) → flat_map print_data_in log ≡ map value_data (printed_by main_attempt log)
unfolding same_attempt same_id
prints_said [] = refl
prints_said (In e seat ∷ log) = prints_said log
prints_said (Refused r ∷ log) = prints_said log
prints_said (Opened w n ∷ log) = prints_said log
prints_said (Begun a w ∷ log) = prints_said log
prints_said (Born o a b ∷ log) = prints_said log
prints_said (Got a y c ∷ log) = prints_said log
prints_said (Printed v ∷ log) = ap (λ ds. value_data v ∷ ds) (prints_said log)
prints_said (Ended a cs ∷ log) = prints_said log
prints_said (Accepted a ∷ log) = prints_said log
prints_said (Faulted a y f ∷ log) = prints_said log
prints_said (Resolved o f ∷ log) = prints_said log
prints_said (Released o ∷ log) = prints_said log
