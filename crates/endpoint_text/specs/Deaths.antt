-- What is said of an opening and of a death.
use Rattle.std.specs.Prelude.{ℕ, ◌==◌, if◌then◌else◌, List, [], ◌∷◌, ◌++◌, codes, Option, Some, None}
use Rattle.std.specs.List.{flat_map, list_any}
use Rattle.std.specs.Fmt.{decimal}
use Rattle.meaning.specs.Births.{Bearing}
use Rattle.event_log.specs.Entries.{Attempt, Entry, Begun}
use Rattle.event_log.specs.Words.{births}
use Rattle.report_text.specs.of_report_lines.Main.{first}
use Rattle.log_text.specs.Attempts.{named_text}
use Rattle.protocol_data.specs.declared.message.Message.{Message}
use Rattle.protocol_data.specs.declared.message.Message.TheVariants.{Give}
use Rattle.protocol_data.specs.declared.message.Envelope.{Envelope}
use Rattle.main_text.specs.Links.{worker_text}
use Rattle.why_text.specs.Moments.{Moment, when_text}
use Rattle.why_text.specs.Runs.{is_end_of}

-- ---- openings

abbrev pub given_by : ℕ → Message → List Attempt
given_by w (Give a t v) = if v == w then a ∷ [] else []
given_by w _ = []

abbrev pub given_in : ℕ → Envelope → List Attempt
given_in w l = given_by w l.message

-- the attempt to which a node gave the worker first
abbrev pub first_given : List Envelope → ℕ → Option Attempt
first_given envelopes w = first (flat_map (given_in w) envelopes)

abbrev pub for_note : List Bearing → Option Attempt → List ℕ
for_note births None = []
for_note births (Some a) = codes ", for " ++ named_text births a

unfoldable pub opened_head : ℕ → ℕ → List ℕ
opened_head w n = codes "w" ++ (decimal w ++ (codes " was opened on n" ++ decimal n))

-- w2 was opened on n1 in event 3 (deliver 1, line 1), for a1.1#0 (part).
abbrev pub opened_text : List Entry → List Envelope → Moment → ℕ → ℕ → List ℕ
opened_text log envelopes m w n = opened_head w n ++ (when_text m ++ (for_note (births log) (first_given envelopes w) ++ codes ".\n"))

-- ---- deaths

abbrev pub ran_in : ℕ → Entry → List Attempt
ran_in w (Begun a v) = if v == w then a ∷ [] else []
ran_in w _ = []

-- the attempts that the worker ran, in the order in which they were begun
abbrev pub ran_on : List Entry → ℕ → List Attempt
ran_on log w = flat_map (ran_in w) log

-- , and a1.1#0 (part) broke
unfoldable pub broke_text : List Bearing → Attempt → List ℕ
broke_text births a = codes ", and " ++ (named_text births a ++ codes " broke")

-- an attempt of which the log never says that it ended
abbrev pub broke_if : List Entry → Attempt → List ℕ
broke_if log a = if list_any (is_end_of a) log then [] else broke_text (births log) a

abbrev pub broken_text : List Entry → List Attempt → List ℕ
broken_text log attempts = flat_map (broke_if log) attempts

-- w2 died in event 6 (kill 2, line 2), and a1.1#0 (part) broke.
abbrev pub death_text : List Entry → Moment → ℕ → List Attempt → List ℕ
death_text log m w attempts = worker_text w ++ (codes " died" ++ (when_text m ++ (broken_text log attempts ++ codes ".\n")))

unfoldable pub with_node : ℕ → ℕ → List ℕ
with_node w n = codes "w" ++ (decimal w ++ (codes " died with n" ++ decimal n))

-- w3 died with n2 in event 6 (kill-node 2, line 2), and a1.1#0 (part) broke.
abbrev pub death_with_text : List Entry → Moment → ℕ → ℕ → List Attempt → List ℕ
death_with_text log m w n attempts = with_node w n ++ (when_text m ++ (broken_text log attempts ++ codes ".\n"))
