-- The summary's lines of events: of each kind that came how many did, and how many were refused.
use Rattle.std.specs.Prelude.{Bool, List, [], codes, false, if◌then◌else◌, ℕ, ◌+◌, ◌++◌, ◌==◌, ◌∷◌}
use Rattle.std.specs.Fmt.{decimal}
use Rattle.meaning.specs.Meaning.{same_name}
use Rattle.meaning.specs.Values.{Name}
use Rattle.event_log.specs.Entries.{Claim, Commit, Deliver, Entry, Event, Evict, In, Join, Kill, KillNode, Lose, Notice, NoticeNode, Tick}
use Rattle.event_log.specs.Events.{refused_next}

-- with which an event's line begins
abbrev pub event_word : Event → Name
event_word (Claim w) = codes "claim"
event_word (Commit j) = codes "commit"
event_word (Deliver m) = codes "deliver"
event_word (Tick w) = codes "tick"
event_word (Notice w v) = codes "notice"
event_word (NoticeNode w n) = codes "notice-node"
event_word (Evict n o) = codes "evict"
event_word (Lose n o) = codes "lose"
event_word (Kill w) = codes "kill"
event_word (KillNode n) = codes "kill-node"
event_word Join = codes "join"

abbrev pub is_named : Name → Entry → Bool
is_named word (In e seat) = same_name (event_word e) word
is_named word _ = false

abbrev pub came_count : Name → List Entry → ℕ
came_count word [] = 0
came_count word (x ∷ rest) = (if is_named word x then 1 else 0) + came_count word rest

abbrev pub is_refused_event : Name → Entry → Bool → Bool
is_refused_event word x refused = if refused then is_named word x else false

abbrev pub refused_count : Name → List Entry → ℕ
refused_count word [] = 0
refused_count word (x ∷ rest) = (if is_refused_event word x (refused_next rest) then 1 else 0) + refused_count word rest

-- event claim: 9 came, 1 refused
unfoldable pub counted_words : Name → ℕ → ℕ → List ℕ
counted_words word came refused =
    codes "event " ++ (word ++ (codes ": " ++ (decimal came ++ (codes " came, " ++ (decimal refused ++ codes " refused\n")))))

abbrev pub counted_note : Name → ℕ → ℕ → List ℕ
counted_note word came refused = if came == 0 then [] else counted_words word came refused

-- there is no line of events that never came
unfoldable pub word_line : List Entry → Name → List ℕ
word_line log word = counted_note word (came_count word log) (refused_count word log)

-- what goes on in a run
abbrev pub run_words : List Entry → List ℕ
run_words log =
    word_line log (codes "claim")
    ++ (word_line log (codes "commit")
    ++ (word_line log (codes "deliver")
    ++ (word_line log (codes "tick") ++ (word_line log (codes "notice") ++ word_line log (codes "notice-node")))))

-- what befalls it
abbrev pub fault_words : List Entry → List ℕ
fault_words log =
    word_line log (codes "evict")
    ++ (word_line log (codes "lose") ++ (word_line log (codes "kill") ++ (word_line log (codes "kill-node") ++ word_line log (codes "join"))))

unfoldable pub events_text : List Entry → List ℕ
events_text log = run_words log ++ fault_words log
