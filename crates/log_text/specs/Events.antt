-- The line of an event: its number, its text, its seat, and what it does where it isn't refused.
use Rattle.std.specs.Prelude.{ℕ, zero, suc, ◌+◌, Bool, if◌then◌else◌, List, [], Option, Some, None, ◌++◌, codes, length}
use Rattle.std.specs.Fmt.{decimal}
use Rattle.report.specs.ValueTexts.{id_text}
use Rattle.log_words.specs.of_event_log.Entries.{Event, Claim, Commit, Deliver, Tick, Notice, NoticeNode, Evict, Lose, Kill, KillNode, Join}
use Rattle.log_words.specs.of_event_log.Events.{from_one}
use Rattle.log_words.specs.of_report_lines.Texts.{event_text}

-- a commit of a job that was never given out is in no legal log
abbrev pub done_text : Option ℕ → ℕ → List ℕ
done_text (Some w) j = codes "w" ++ (decimal w ++ (codes " has done job " ++ decimal j))
done_text None j = codes "job " ++ (decimal j ++ codes " is done")

-- in words; `jobs` are the workers to which the jobs so far were given
abbrev pub meaning_text : List ℕ → Event → List ℕ
meaning_text jobs (Claim w) = codes "w" ++ (decimal w ++ (codes " takes job " ++ decimal (length jobs + 1)))
meaning_text jobs (Commit j) = done_text (from_one jobs j) j
meaning_text jobs (Deliver m) = codes "message " ++ (decimal m ++ codes " arrives")
meaning_text jobs (Tick w) = codes "w" ++ (decimal w ++ codes " sends again what it waits for")
meaning_text jobs (Notice w v) = codes "w" ++ (decimal w ++ (codes " learns that w" ++ (decimal v ++ codes " is dead")))
meaning_text jobs (NoticeNode w n) = codes "w" ++ (decimal w ++ (codes " learns that n" ++ (decimal n ++ codes " is dead")))
meaning_text jobs (Evict n o) = codes "n" ++ (decimal n ++ (codes " drops its secondary copies of " ++ id_text o))
meaning_text jobs (Lose n o) = codes "n" ++ (decimal n ++ (codes " loses its copies of " ++ id_text o))
meaning_text jobs (Kill w) = codes "w" ++ (decimal w ++ codes " dies")
meaning_text jobs (KillNode n) = codes "n" ++ (decimal n ++ codes " dies, and its workers with it")
meaning_text jobs Join = codes "a new node comes"

-- a refused event does nothing
abbrev pub meaning_note : List ℕ → Event → Bool → List ℕ
meaning_note jobs e refused = if refused then [] else codes ": " ++ meaning_text jobs e

-- where seats are used they are counted from 1
abbrev pub seat_note : ℕ → List ℕ
seat_note zero = []
seat_note (suc n) = codes " (seat " ++ (decimal (suc n) ++ codes ")")

-- 7. claim 2: w2 takes job 3
abbrev pub event_line : ℕ → List ℕ → Event → ℕ → Bool → List ℕ
event_line number jobs e seat refused =
    decimal number ++ (codes ". " ++ (event_text e ++ (meaning_note jobs e refused ++ (seat_note seat ++ codes "\n"))))
