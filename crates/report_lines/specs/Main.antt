-- What a report says of main.
use Rattle.std.specs.Prelude.{ℕ, List, [], ◌∷◌, Option, Some, None, ◌++◌, codes, take, if◌then◌else◌}
use Rattle.std.specs.List.{flat_map}
use Rattle.std.specs.Option.{option_map}
use Rattle.meaning.specs.Values.{Outcome, Val, Trapped}
use Rattle.event_log.specs.Entries.{Fault, Entry, Printed, Ended, main_attempt}
use Rattle.event_log.specs.Words.{same_attempt, faults_of}
use Rattle.report.specs.ValueTexts.{value_text}
use Rattle.report.specs.MainLines.{end_line}
use Rattle.report_lines.specs.Texts.{fault_text}

-- print V, where main printed
abbrev pub print_in : Entry → List ℕ
print_in (Printed v) = codes "print " ++ (value_text v ++ codes "\n")
print_in _ = []

abbrev pub first : {A : Type 0} → List A → Option A
first [] = None
first (x ∷ xs) = Some x

-- the content of main's one result, where it ends
abbrev pub main_ends_in : Entry → List Outcome
main_ends_in (Ended a cs) = if same_attempt a main_attempt then take 1 cs else []
main_ends_in _ = []

-- the content with which main ended
abbrev pub main_end : List Entry → Option Outcome
main_end log = first (flat_map main_ends_in log)

-- the fault that one of its gets was answered with
abbrev pub main_fault : List Entry → Option Fault
main_fault log = option_map (λ x. x.fault) (first (faults_of main_attempt log))

-- of a main that didn't end: main fault OwnerDied o2.1, or main open
abbrev pub unended_line : Option Fault → List ℕ
unended_line (Some f) = codes "main fault " ++ (fault_text f ++ codes "\n")
unended_line None = codes "main open\n"

-- main value V, or main trap T; where main didn't end, its fault
abbrev pub main_line : Option Outcome → Option Fault → List ℕ
main_line (Some c) fault = end_line c
main_line None fault = unended_line fault

-- 0 for a value, 1 for a trap, 2 where main has a fault or is open
abbrev pub status : Option Outcome → ℕ
status (Some (Val v)) = 0
status (Some (Trapped t)) = 1
status None = 2

abbrev pub status_of : List Entry → ℕ
status_of log = status (main_end log)
