-- How main ended in a run, by its log, and how many attempts there were.
use Rattle.std.specs.Prelude.{ℕ, ◌+◌, Bool, true, false, ◌||◌, ◌==◌, not, if◌then◌else◌, List, [], ◌∷◌, Option, Some, None}
use Rattle.meaning.specs.Values.{Outcome}
use Rattle.event_log.specs.Entries.{Fault, Event, Kill, KillNode, Entry, In, Begun, main_attempt}
use Rattle.event_log.specs.Events.{refused_next}
use Rattle.event_log.specs.Words.{same_attempt}
use Rattle.report_text.specs.of_report_lines.Main.{main_end, main_fault}
use Rattle.fault_lists.specs.declared.ending.RunEnd.{RunEnd}
use Rattle.fault_lists.specs.declared.ending.RunEnd.TheVariants.{AsSerial, Faulted, Open, Killed}

-- the death of main's worker, which is worker 1 at node 1
abbrev pub kills_main : Event → Bool
kills_main (Kill w) = w == 1
kills_main (KillNode n) = n == 1
kills_main e = false

-- such an event was accepted
abbrev pub main_is_killed : List Entry → Bool
main_is_killed [] = false
main_is_killed (In e seat ∷ rest) = (if refused_next rest then false else kills_main e) || main_is_killed rest
main_is_killed (x ∷ rest) = main_is_killed rest

-- of a main that didn't end
abbrev pub unended : Bool → RunEnd
unended true = Killed
unended false = Open

abbrev pub ended : Option Outcome → Option Fault → Bool → RunEnd
ended (Some c) fault killed = AsSerial
ended None (Some f) killed = Faulted f
ended None None killed = unended killed

abbrev pub end_of : List Entry → RunEnd
end_of log = ended (main_end log) (main_fault log) (main_is_killed log)

-- the entry is the beginning of an attempt other than main's
abbrev pub begun_by : Entry → Bool
begun_by (Begun a w) = not (same_attempt a main_attempt)
begun_by x = false

-- how many attempts were begun, without main's
abbrev pub attempts_in : List Entry → ℕ
attempts_in [] = 0
attempts_in (x ∷ rest) = (if begun_by x then 1 else 0) + attempts_in rest
