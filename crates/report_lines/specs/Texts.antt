-- The texts of attempts, faults and events, as reports and event files write them.
use Rattle.std.specs.Prelude.{ℕ, List, ◌++◌, codes}
use Rattle.std.specs.Fmt.{decimal}
use Rattle.report.specs.ValueTexts.{id_text}
use Rattle.event_log.specs.Entries.{Attempt, FaultKind, OwnerDied, PutLost, RetriesUsed, Fault, Event, Claim, Commit, Deliver, Tick, Notice}
use Rattle.event_log.specs.Entries.{NoticeNode, Evict, Lose, Kill, KillNode, Join}

-- a1.2#0
abbrev pub attempt_text : Attempt → List ℕ
attempt_text a = codes "a" ++ (decimal a.object.owner ++ (codes "." ++ (decimal a.object.serial ++ (codes "#" ++ decimal a.number))))

abbrev pub kind_name : FaultKind → List ℕ
kind_name OwnerDied = codes "OwnerDied"
kind_name PutLost = codes "PutLost"
kind_name RetriesUsed = codes "RetriesUsed"

-- PutLost o1.1: the kind, and the object in which the fault began
abbrev pub fault_text : Fault → List ℕ
fault_text f = kind_name f.kind ++ (codes " " ++ id_text f.object)

abbrev pub event_text : Event → List ℕ
event_text (Claim w) = codes "claim " ++ decimal w
event_text (Commit j) = codes "commit " ++ decimal j
event_text (Deliver m) = codes "deliver " ++ decimal m
event_text (Tick w) = codes "tick " ++ decimal w
event_text (Notice w v) = codes "notice " ++ (decimal w ++ (codes " " ++ decimal v))
event_text (NoticeNode w n) = codes "notice-node " ++ (decimal w ++ (codes " " ++ decimal n))
event_text (Evict n o) = codes "evict " ++ (decimal n ++ (codes " " ++ id_text o))
event_text (Lose n o) = codes "lose " ++ (decimal n ++ (codes " " ++ id_text o))
event_text (Kill w) = codes "kill " ++ decimal w
event_text (KillNode n) = codes "kill-node " ++ decimal n
event_text Join = codes "join"
