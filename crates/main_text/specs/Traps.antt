-- From which attempt a trap came to main, told get by get.
use Rattle.std.specs.Prelude.{List, None, Option, Some, [], codes, if◌then◌else◌, suc, zero, ℕ, ◌+◌, ◌++◌, ◌∷◌}
use Rattle.std.specs.List.{flat_map}
use Rattle.std.specs.Fmt.{decimal}
use Rattle.meaning.specs.Values.{Broken, DivZero, Id, Index, Loop, Outcome, Overflow, TooDeep, TooLong, Trap, Trapped, Val}
use Rattle.report.specs.MainLines.{trap_name}
use Rattle.event_log.specs.Entries.{Attempt, Ended, Entry, Got}
use Rattle.event_log.specs.Words.{births, same_attempt}
use Rattle.report_text.specs.of_report_lines.Main.{first}
use Rattle.log_text.specs.Attempts.{named_text}
use Rattle.protocol_data.specs.declared.job.JobRecord.{JobRecord}
use Rattle.log_words.specs.declared.contents.Contents.{Contents}
use Rattle.why_text.specs.Again.{runner_of}
pub use Rattle.trap_sources.specs.Chains.{trapped_of}
unfoldable pub use Rattle.trap_sources.specs.Chains.{trap_got}
use Rattle.main_text.specs.declared.happenings.Happening.TheVariants.{Begins, Gets, Stops}
use Rattle.main_text.specs.Happenings.{when_last}
use Rattle.main_text.specs.Links.{made_text, worker_text}

abbrev pub count_in : Attempt → Entry → ℕ
count_in a (Got b y c) = if same_attempt b a then 1 else 0
count_in a _ = 0

-- how many answers the attempt got
abbrev pub answer_count : Attempt → List Entry → ℕ
answer_count a [] = 0
answer_count a (x ∷ rest) = count_in a x + answer_count a rest

abbrev pub runner_note : Option ℕ → List ℕ
runner_note None = []
runner_note (Some w) = codes " on " ++ worker_text w

-- a1.2#0 (f) began on w3 in event 10 (deliver 5, line 4), and ended with the trap in event 15 (commit 4, line 8).
unfoldable pub run_text : List JobRecord → List Entry → List ℕ → Attempt → List ℕ
run_text jobs log lines a =
    named_text (births log) a
    ++ (codes " began"
    ++ (runner_note (runner_of log a)
    ++ (when_last jobs lines log (Begins a) ++ (codes ", and ended with the trap" ++ (when_last jobs lines log (Stops a) ++ codes ".\n")))))

abbrev pub behind_text : ℕ → List ℕ
behind_text zero = codes "before any answer"
behind_text (suc n) = codes "after answer " ++ decimal (suc n)

abbrev pub trap_in_outcome : Outcome → List Trap
trap_in_outcome (Val v) = []
trap_in_outcome (Trapped t) = t ∷ []

abbrev pub trap_in : Attempt → Entry → List Trap
trap_in a (Ended b cs) = if same_attempt b a then flat_map trap_in_outcome cs else []
trap_in a _ = []

-- the trap with which the attempt ended
abbrev pub trap_ended : List Entry → Attempt → Option Trap
trap_ended log a = first (flat_map (trap_in a) log)

-- what such a trap can come of; no checked script has the last
abbrev pub operators : Trap → List ℕ
operators Overflow = codes "+, -, *, / or %"
operators DivZero = codes "/ or %"
operators Index = codes "[ ]"
operators TooLong = codes "push"
operators Loop = codes "for"
operators TooDeep = codes "a call"
operators Broken = codes "nothing"

-- : DivZero, by / or %
abbrev pub trap_note : Option Trap → List ℕ
trap_note None = []
trap_note (Some t) = codes ": " ++ (trap_name t ++ (codes ", by " ++ operators t))

-- a3.1#0 (g) trapped in its own code, after answer 2: DivZero, by / or %.
unfoldable pub own_text : List Entry → Attempt → List ℕ
own_text log a =
    named_text (births log) a
    ++ (codes " trapped in its own code, " ++ (behind_text (answer_count a log) ++ (trap_note (trap_ended log a) ++ codes ".\n")))

-- a1.0#0 (main) got a trap in event 19 (deliver 11, line 9), that of o1.2: remote(2) f(get o1.1, 5).
unfoldable pub trap_text : Contents → List JobRecord → List Entry → List ℕ → Attempt → Id → List ℕ
trap_text how jobs log lines a y =
    named_text (births log) a
    ++ (codes " got a trap" ++ (when_last jobs lines log (Gets a) ++ (codes ", that of " ++ (made_text how (births log) y ++ codes ".\n"))))

-- an attempt that ended with the trap, and what is told of it behind that
abbrev pub made_step : List JobRecord → List Entry → List ℕ → (Attempt → List ℕ) → Option Attempt → List ℕ
made_step jobs log lines rest None = []
made_step jobs log lines rest (Some b) = run_text jobs log lines b ++ rest b

abbrev pub trap_step : Contents → List JobRecord → List Entry → List ℕ → (Attempt → List ℕ) → Attempt → Option Id → List ℕ
trap_step how jobs log lines rest a None = own_text log a
trap_step how jobs log lines rest a (Some y) = trap_text how jobs log lines a y ++ made_step jobs log lines rest (trapped_of log y)

-- from that attempt to the first one whose own code trapped, so many at most; `how` says whether long lists are cut
unfoldable pub traps_text : Contents → List JobRecord → List Entry → List ℕ → ℕ → Attempt → List ℕ
traps_text how jobs log lines zero a = []
traps_text how jobs log lines (suc n) a = trap_step how jobs log lines (traps_text how jobs log lines n) a (trap_got log a)
