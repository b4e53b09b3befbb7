-- Why an object is as it is.
use Rattle.std.specs.Prelude.{ℕ, zero, suc, ◌+◌, if◌then◌else◌, List, [], ◌∷◌, ◌++◌, codes, length, Option, Some, None, take}
use Rattle.std.specs.List.{flat_map}
use Rattle.std.specs.Fmt.{decimal}
use Rattle.report.specs.ValueTexts.{id_text}
use Rattle.meaning.specs.Values.{Id, Birth}
use Rattle.meaning.specs.Births.{Bearing, birth_at, same_id}
use Rattle.event_log.specs.Entries.{Entry, Faulted, Resolved}
use Rattle.event_log.specs.Events.{refused_next}
use Rattle.event_log.specs.Words.{Lack, births}
use Rattle.why_text.specs.declared.causes.Lack.{Lack as CodeLack}
use Rattle.report_text.specs.of_report_lines.Main.{first}
use Rattle.log_words.specs.declared.contents.Contents.{Contents}
use Rattle.log_words.specs.Faults.{fault_words}
use Rattle.log_words.specs.Tasks.{task_of}
use Rattle.why_text.specs.Moments.{Moment, first_moment, moment_after}
use Rattle.why_text.specs.Runs.{Subject, subject_of}
use Rattle.why_text.specs.Entries.{sentence}
use Rattle.why_text.specs.Ways.{next_cause}

-- the sentences of the entries from a place of the log on, where `m` is the moment before them, `lines` are the lines of the events, and
-- `how` says whether long lists are cut
abbrev pub sentences : Contents → Subject → List Bearing → List ℕ → List Entry → ℕ → Moment → List Entry → List ℕ
sentences how s births lines log place m [] = []
sentences how s births lines log place m (x ∷ rest) =
    sentence how s births lines (take place log) (moment_after lines m x) x (refused_next rest)
    ++ sentences how s births lines log (place + 1) (moment_after lines m x) rest

-- There is no o9.9: w9, which would own it, never made it.
unfoldable pub unborn_note : Id → Option Birth → List ℕ
unborn_note o (Some b) = []
unborn_note o None = codes "There is no " ++ (id_text o ++ (codes ": w" ++ (decimal o.owner ++ codes ", which would own it, never made it.\n")))

-- of an object, whose task is named by that one: that there is none, or what the entries say one by one
abbrev pub account_of : Contents → List Entry → List ℕ → Id → Id → List ℕ
account_of how log lines o task =
    unborn_note o (birth_at (births log) task) ++ sentences how (subject_of log o task) (births log) lines log 0 first_moment log

-- what the log says of an object, entry by entry
unfoldable pub account : Contents → List Entry → List ℕ → Id → List ℕ
account how log lines o = account_of how log lines o (task_of (births log) o)

-- the object in which the fault of another began, where the entry says that the other has a fault: it was given up, an attempt of its task ended with
-- the fault, or a get of it was answered so
unfoldable pub cause_in : Id → Id → Entry → List Id
cause_in o task (Resolved p f) = if same_id p o then f.object ∷ [] else []
cause_in o task (Faulted a y f) = if same_id a.object task then f.object ∷ [] else (if same_id y o then f.object ∷ [] else [])
cause_in o task _ = []

abbrev pub cause_by : List Entry → Id → Id → Option Id
cause_by log o task = first (flat_map (cause_in o task) log)

abbrev pub cause : List Entry → Id → Option Id
cause log o = cause_by log o (task_of (births log) o)

-- where a fault began in another object, that one's account follows
abbrev pub cause_text : Contents → List Entry → List ℕ → Id → Option Id → List ℕ
cause_text how log lines o None = []
cause_text how log lines o (Some z) = if same_id z o then [] else codes "\n" ++ account how log lines z

-- an object's account, and that of the object in which its fault began; `lines` are the lines of the event file from which the events came
unfoldable pub why_text : Contents → List Entry → List ℕ → Id → List ℕ
why_text how log lines o = account how log lines o ++ cause_text how log lines o (cause log o)

abbrev pub lack_of : CodeLack → Lack
lack_of x = record { object = x.object; fault = x.fault }

-- the accounts of the object and of each one on the way to z, so many at most
unfoldable pub causes_text : Contents → List Entry → List ℕ → Id → ℕ → Id → List ℕ
causes_text how log lines z zero o = []
causes_text how log lines z (suc n) o =
    account how log lines o ++ (if same_id o z then [] else codes "\n" ++ causes_text how log lines z n (next_cause log z o))

-- why main ended with a fault: the accounts of the object that it was to get, and of each one on the way to the first cause
unfoldable pub main_lack_text : Contents → List Entry → List ℕ → Lack → List ℕ
main_lack_text how log lines x =
    codes "Main ended with a fault: "
    ++ (fault_words x.fault ++ (codes ".\n\n" ++ causes_text how log lines x.fault.object (length log) x.object))
