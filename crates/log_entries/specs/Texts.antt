-- The texts of events, as event files write them.
use Rattle.std.specs.Prelude.{ℕ, List, ◌++◌, codes}
use Rattle.std.specs.Fmt.{decimal}
use Rattle.held.specs.of_ids.Texts.{object_text}
use Rattle.log_entries.specs.declared.event.Event.{Event}
use Rattle.log_entries.specs.declared.event.Event.TheVariants.{Claim, Commit, Deliver, Tick, Notice, NoticeNode, Evict, Lose, Kill, KillNode, Join}

abbrev pub event_text : Event → List ℕ
event_text (Claim w) = codes "claim " ++ decimal w
event_text (Commit j) = codes "commit " ++ decimal j
event_text (Deliver m) = codes "deliver " ++ decimal m
event_text (Tick w) = codes "tick " ++ decimal w
event_text (Notice w v) = codes "notice " ++ (decimal w ++ (codes " " ++ decimal v))
event_text (NoticeNode w n) = codes "notice-node " ++ (decimal w ++ (codes " " ++ decimal n))
event_text (Evict n o) = codes "evict " ++ (decimal n ++ (codes " " ++ object_text o))
event_text (Lose n o) = codes "lose " ++ (decimal n ++ (codes " " ++ object_text o))
event_text (Kill w) = codes "kill " ++ decimal w
event_text (KillNode n) = codes "kill-node " ++ decimal n
event_text Join = codes "join"
