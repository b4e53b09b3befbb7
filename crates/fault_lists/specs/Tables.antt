-- The table of what comes of all lists.
use Rattle.std.specs.Prelude.{ℕ, ◌+◌, ◌==◌, ◌<◌, ◌^◌, IfSome, Bool, true, false, if◌then◌else◌, nat_lt, List, [], ◌∷◌, ◌++◌, length, Option, Some, None, codes}
use Rattle.std.specs.Fmt.{decimal}
use Rattle.log_entries.specs.Texts.{event_text}
use Rattle.event_files.specs.Lines.{IsEvent}
use Rattle.event_files.specs.Printing.{events_text}
use Rattle.ids.specs.Texts.{IsObject}
use Rattle.event_log.specs.Entries.{Event, FaultKind, OwnerDied, PutLost, RetriesUsed}
use Rattle.report_text.specs.of_report_lines.Texts.{fault_text, kind_name}
use Rattle.fault_lists.specs.declared.ending.RunEnd.{RunEnd}
use Rattle.fault_lists.specs.declared.ending.RunEnd.TheVariants as ends
use Rattle.faulted_history.specs.declared.fault_list.FaultList.{FaultList}
use Rattle.fault_lists.specs.declared.tried.EndKind.{EndKind}
use Rattle.fault_lists.specs.declared.tried.EndKind.TheVariants as kinds
use Rattle.fault_lists.specs.declared.tried.Tried.{Tried}
use Rattle.faulted_history.specs.History.{event_list}

abbrev pub same_fault : FaultKind → FaultKind → Bool
same_fault OwnerDied OwnerDied = true
same_fault PutLost PutLost = true
same_fault RetriesUsed RetriesUsed = true
same_fault k l = false

abbrev pub has_kind : EndKind → RunEnd → Bool
has_kind kinds.AsSerial ends.AsSerial = true
has_kind (kinds.Faulted k) (ends.Faulted f) = same_fault k f.kind
has_kind kinds.Open ends.Open = true
has_kind kinds.Killed ends.Killed = true
has_kind kinds.Stopped ends.Stopped = true
has_kind k e = false

-- how many ended so
abbrev pub count_of : EndKind → List Tried → ℕ
count_of k [] = 0
count_of k (t ∷ ts) = (if has_kind k t.end then 1 else 0) + count_of k ts

-- the first that ended so
abbrev pub first_of : EndKind → List Tried → Option Tried
first_of k [] = None
first_of k (t ∷ ts) = if has_kind k t.end then Some t else first_of k ts

-- the most attempts of one, and at least so many
abbrev pub most_from : ℕ → List Tried → ℕ
most_from n [] = n
most_from n (t ∷ ts) = most_from (if nat_lt n t.attempts then t.attempts else n) ts

abbrev pub most_attempts : List Tried → ℕ
most_attempts tried = most_from 0 tried

-- the attempts of all
abbrev pub all_attempts : List Tried → ℕ
all_attempts [] = 0
all_attempts (t ∷ ts) = t.attempts + all_attempts ts

-- main ended as the serial run does, or was itself what died
abbrev pub is_survived : RunEnd → Bool
is_survived ends.AsSerial = true
is_survived ends.Killed = true
is_survived e = false

-- 0 where all are such, else 2
abbrev pub status_of_all : List Tried → ℕ
status_of_all [] = 0
status_of_all (t ∷ ts) = if is_survived t.end then status_of_all ts else 2

-- ---- a list, told

abbrev pub place_text : ℕ → List ℕ
place_text place = if place == 0 then codes " before event 1" else codes " behind event " ++ decimal place

abbrev pub notice_text : Option Event → List ℕ
notice_text (Some e) = codes " and " ++ event_text e
notice_text None = []

-- the fault, the notice behind it, and where they stand
abbrev pub fault_list_text : FaultList → List ℕ
fault_list_text l = event_text l.fault ++ (notice_text l.notice ++ place_text l.place)

abbrev pub end_text : RunEnd → List ℕ
end_text ends.AsSerial = codes "main as serial"
end_text (ends.Faulted f) = codes "main fault " ++ fault_text f
end_text ends.Open = codes "main open"
end_text ends.Killed = codes "main killed"
end_text ends.Stopped = codes "refused 41"

-- kill 2 and notice 1 2 behind event 7: main fault RetriesUsed o1.1
abbrev pub list_text : Tried → List ℕ
list_text t = fault_list_text t.list ++ (codes ": " ++ end_text t.end)

-- an event file that says what the list does, behind a comment that tells what comes of it
abbrev pub list_file : List Event → Tried → List ℕ
list_file events t = codes "# " ++ (list_text t ++ (codes "\n" ++ (events_text (event_list events t.list) ++ codes "settle\n")))

-- the numbers of what is told of a list fit their types: those of the fault, of the notice behind it, of its place, and of how main ended
abbrev pub EndFits : RunEnd → Type 0
EndFits (ends.Faulted f) = IsObject f.object
EndFits e = Unit {0}

pub record AreTold (t : Tried) : Type 0 where
  pub fault : IsEvent t.list.fault
  pub notice : IfSome t.list.notice IsEvent
  pub place : t.list.place < 2 ^ 64
  pub end : EndFits t.end

-- ---- the table

-- how many lists were tried, and of how many, unless it were all
abbrev pub lists_line : ℕ → ℕ → List ℕ
lists_line tried all =
    if tried == all then codes "lists " ++ (decimal tried ++ codes "\n")
    else codes "lists " ++ (decimal tried ++ (codes " of " ++ (decimal all ++ codes "\n")))

abbrev pub kind_words : EndKind → List ℕ
kind_words kinds.AsSerial = codes "as serial"
kind_words (kinds.Faulted k) = codes "fault " ++ kind_name k
kind_words kinds.Open = codes "open"
kind_words kinds.Killed = codes "main killed"
kind_words kinds.Stopped = codes "stopped"

-- the words for an end, and how many lists ended so
unfoldable pub count_line : EndKind → List Tried → List ℕ
count_line k tried = kind_words k ++ (codes " " ++ (decimal (count_of k tried) ++ codes "\n"))

abbrev pub fault_lines : List Tried → List ℕ
fault_lines tried =
    count_line (kinds.Faulted OwnerDied) tried ++ (count_line (kinds.Faulted PutLost) tried ++ count_line (kinds.Faulted RetriesUsed) tried)

abbrev pub other_lines : List Tried → List ℕ
other_lines tried = count_line kinds.Open tried ++ (count_line kinds.Killed tried ++ count_line kinds.Stopped tried)

abbrev pub count_lines : List Tried → List ℕ
count_lines tried = count_line kinds.AsSerial tried ++ (fault_lines tried ++ other_lines tried)

-- the attempts of the run without a fault, of the list with the most, and of all lists
abbrev pub attempts_line : ℕ → List Tried → List ℕ
attempts_line before tried =
    codes "attempts "
    ++ (decimal before
    ++ (codes " without a fault, "
    ++ (decimal (most_attempts tried) ++ (codes " at most, " ++ (decimal (all_attempts tried) ++ codes " in all\n")))))

abbrev pub line_of : Option Tried → List ℕ
line_of (Some t) = list_text t ++ codes "\n"
line_of None = []

-- the first list that ended so
abbrev pub told_line : EndKind → List Tried → List ℕ
told_line k tried = line_of (first_of k tried)

abbrev pub told_lines : List Tried → List ℕ
told_lines tried =
    told_line (kinds.Faulted OwnerDied) tried
    ++ (told_line (kinds.Faulted PutLost) tried
    ++ (told_line (kinds.Faulted RetriesUsed) tried
    ++ (told_line kinds.Open tried ++ (told_line kinds.Killed tried ++ told_line kinds.Stopped tried))))

-- of the lists that were tried, of so many that there are, beside so many attempts of the run without a fault
abbrev pub table_text : ℕ → ℕ → List Tried → List ℕ
table_text all before tried = lists_line (length tried) all ++ (count_lines tried ++ (attempts_line before tried ++ told_lines tried))
