-- Why an attempt was begun again: what became of the one before it.
use Rattle.std.specs.Prelude.{ℕ, ◌-◌, Bool, false, ◌==◌, nat_lt, if◌then◌else◌, List, [], ◌∷◌, ◌++◌, codes, length, Option, Some, None}
use Rattle.std.specs.List.{flat_map, list_any}
use Rattle.std.specs.Fmt.{decimal}
use Rattle.meaning.specs.Values.{Id}
use Rattle.meaning.specs.Births.{Bearing}
use Rattle.event_log.specs.Entries.{Attempt, Event, KillNode, Entry, Begun, Accepted}
use Rattle.event_log.specs.Words.{same_attempt}
use Rattle.report_text.specs.of_report_lines.Main.{first}
use Rattle.report_text.specs.of_report_lines.Texts.{attempt_text}
use Rattle.why_text.specs.Moments.{Moment, when_text}
use Rattle.why_text.specs.Holders.{death_of}
use Rattle.why_text.specs.Results.{objects_of}

unfoldable pub is_accept_of : Attempt → Entry → Bool
is_accept_of a (Accepted b) = same_attempt b a
is_accept_of a _ = false

-- its owner learned how the attempt ended
abbrev pub is_accepted_in : List Entry → Attempt → Bool
is_accepted_in before a = list_any (is_accept_of a) before

abbrev pub runner_in : Attempt → Entry → List ℕ
runner_in a (Begun b w) = if same_attempt b a then w ∷ [] else []
runner_in a _ = []

-- the worker that ran the attempt
abbrev pub runner_of : List Entry → Attempt → Option ℕ
runner_of log a = first (flat_map (runner_in a) log)

abbrev pub one_before : Attempt → Attempt
one_before a = record { object = a.object; number = a.number - 1 }

-- , since the result of a1.1#0 was lost; of several, one of these objects
unfoldable pub lost_text : List Id → Attempt → List ℕ
lost_text objects a =
    if nat_lt 1 (length objects) then codes ", since a result of " ++ (attempt_text a ++ codes " was lost")
    else codes ", since the result of " ++ (attempt_text a ++ codes " was lost")

-- the worker died in the event, by itself or with its node
unfoldable pub died_by : ℕ → Event → List ℕ
died_by w (KillNode n) = codes ", since n" ++ (decimal n ++ (codes ", the node of w" ++ (decimal w ++ codes ", died")))
died_by w _ = codes ", since w" ++ (decimal w ++ codes " died")

abbrev pub broke_text : List ℕ
broke_text = codes ", since the one before it broke"

-- a death is in an event, never at the start
abbrev pub died_head : ℕ → Option Event → List ℕ
died_head w None = broke_text
died_head w (Some e) = died_by w e

-- , since w2 died in event 6 (kill 2, line 2)
abbrev pub died_text : ℕ → Option Moment → List ℕ
died_text w None = broke_text
died_text w (Some m) = died_head w m.event ++ when_text m

unfoldable pub death_text : List ℕ → List Entry → ℕ → List ℕ
death_text lines before w = died_text w (death_of lines before w)

abbrev pub broken_text : List ℕ → List Entry → Option ℕ → List ℕ
broken_text lines before None = broke_text
broken_text lines before (Some w) = death_text lines before w

-- an attempt whose end the owner knew is not run again unless a result of it was lost; any other broke with its worker
unfoldable pub reason_text : List Bearing → List ℕ → List Entry → Attempt → List ℕ
reason_text births lines before a =
    if is_accepted_in before a then lost_text (objects_of births a) a else broken_text lines before (runner_of before a)

-- behind a later attempt of a task; `before` are the entries before it, and `lines` are those of their events
unfoldable pub again_note : List Bearing → List ℕ → List Entry → Attempt → List ℕ
again_note births lines before a = if a.number == 0 then [] else reason_text births lines before (one_before a)
