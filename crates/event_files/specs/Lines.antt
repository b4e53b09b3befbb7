-- The lines of event files and plans, and how they are written.
use Rattle.std.specs.Prelude.{ℕ, ◌<◌, ◌^◌, List, [], ◌∷◌, ◌++◌, codes}
use Rattle.std.specs.Fmt.{decimal}
use Rattle.ids.specs.Texts.{IsObject}
use Rattle.log_entries.specs.Texts.{event_text}
use Rattle.log_entries.specs.declared.event.Event.{Event as AnEvent}
use Rattle.log_entries.specs.declared.event.Event.TheVariants.{Claim, Commit, Deliver, Tick, Notice, NoticeNode, Evict, Lose, Kill, KillNode, Join}
use Rattle.event_files.specs.declared.line.Line.{Line}
use Rattle.event_files.specs.declared.line.Line.TheVariants.{Event, Settle}

-- its numbers fit their types, as those of every event in the code do
abbrev pub IsEvent : AnEvent → Type 0
IsEvent (Claim w) = w < 2 ^ 32
IsEvent (Commit j) = j < 2 ^ 64
IsEvent (Deliver m) = m < 2 ^ 64
IsEvent (Tick w) = w < 2 ^ 32
IsEvent (Notice w v) = (w < 2 ^ 32) × (v < 2 ^ 32)
IsEvent (NoticeNode w n) = (w < 2 ^ 32) × (n < 2 ^ 32)
IsEvent (Evict n o) = (n < 2 ^ 32) × IsObject o
IsEvent (Lose n o) = (n < 2 ^ 32) × IsObject o
IsEvent (Kill w) = w < 2 ^ 32
IsEvent (KillNode n) = n < 2 ^ 32
IsEvent Join = Unit {0}

abbrev pub AreWorkers : List ℕ → Type 0
AreWorkers [] = Unit {0}
AreWorkers (w ∷ ws) = (w < 2 ^ 32) × AreWorkers ws

abbrev pub AreEvents : List AnEvent → Type 0
AreEvents [] = Unit {0}
AreEvents (e ∷ es) = IsEvent e × AreEvents es

-- its numbers fit their types
abbrev pub IsLine : Line → Type 0
IsLine (Event e) = IsEvent e
IsLine (Settle ws) = AreWorkers ws

-- a space before each
abbrev pub workers_text : List ℕ → List ℕ
workers_text [] = []
workers_text (w ∷ ws) = codes " " ++ (decimal w ++ workers_text ws)

-- settle, or settle but W W ..
abbrev pub settle_text : List ℕ → List ℕ
settle_text [] = codes "settle"
settle_text (w ∷ ws) = codes "settle but" ++ workers_text (w ∷ ws)

-- an event as it stands in reports, or a settle
abbrev pub line_text : Line → List ℕ
line_text (Event e) = event_text e
line_text (Settle ws) = settle_text ws
