-- What an event says of an object: deaths of its owner and of workers that ran its task, and lost copies.
use Rattle.std.specs.Prelude.{ℕ, Bool, ◌&&◌, ◌||◌, ◌==◌, if◌then◌else◌, List, [], ◌++◌, codes}
use Rattle.std.specs.List.{flat_map, list_any}
use Rattle.std.specs.Fmt.{decimal}
use Rattle.report.specs.ValueTexts.{id_text}
use Rattle.meaning.specs.Values.{Id}
use Rattle.meaning.specs.Births.{same_id}
use Rattle.event_log.specs.Entries.{Attempt, Event, Notice, NoticeNode, Evict, Lose, Kill, KillNode}
use Rattle.report_text.specs.of_report_lines.Texts.{attempt_text}
use Rattle.log_text.specs.Mentions.{is_among}
use Rattle.why_text.specs.Moments.{Moment, when_text}
use Rattle.why_text.specs.Notes.{owner_text}
use Rattle.why_text.specs.Runs.{Run, Subject, is_node}

-- what became of an attempt where its worker or its node died
unfoldable pub fate_text : Attempt → Bool → List ℕ
fate_text a is_open =
    if is_open then codes ", and " ++ (attempt_text a ++ codes " broke") else codes ", after " ++ (attempt_text a ++ codes " had ended there")

abbrev pub fate_on : ℕ → Run → List ℕ
fate_on w r = if r.worker == w then fate_text r.attempt r.is_open else []

abbrev pub fate_unless : Attempt → Bool → Bool → List ℕ
fate_unless a is_open told = if told then [] else fate_text a is_open

-- one that broke with its worker is not told again
abbrev pub fate_at : ℕ → Run → List ℕ
fate_at n r = if is_node n r.node then fate_unless r.attempt r.is_open (r.is_open && r.was_killed) else []

abbrev pub is_on : ℕ → Run → Bool
is_on w r = r.worker == w

abbrev pub is_at : ℕ → Run → Bool
is_at n r = is_node n r.node

-- the worker owns the object, or ran its task
unfoldable pub concerns : Subject → ℕ → Bool
concerns s w = (s.object.owner == w) || list_any (is_on w) s.runs

-- so one on the node
unfoldable pub concerns_node : Subject → ℕ → Bool
concerns_node s n = is_node n s.home || list_any (is_at n) s.runs

-- it is the object, or another result of its task, with which the object is made again
unfoldable pub is_of_task : Subject → Id → Bool
is_of_task s o = same_id o s.object || is_among o s.results

-- w2 died, or w1, the owner of o1.1, died
unfoldable pub dead_text : Id → ℕ → List ℕ
dead_text o w =
    codes "w" ++ (decimal w ++ (if o.owner == w then codes ", the owner of " ++ (id_text o ++ codes ", died") else codes " died"))

-- with the node dies the owner
unfoldable pub owner_too : Id → List ℕ
owner_too o = codes ", and with it " ++ (owner_text o ++ (codes ", the owner of " ++ id_text o))

unfoldable pub owner_note : Id → Bool → List ℕ
owner_note o dies = if dies then owner_too o else []

-- w2 died in event 6 (kill 2), and a1.1#0 broke.
abbrev pub kill_text : Subject → Moment → ℕ → List ℕ
kill_text s m w = dead_text s.object w ++ (when_text m ++ (flat_map (fate_on w) s.runs ++ codes ".\n"))

unfoldable pub dead_node_text : ℕ → List ℕ
dead_node_text n = codes "n" ++ (decimal n ++ codes " died")

abbrev pub node_kill_text : Subject → Moment → ℕ → List ℕ
node_kill_text s m n =
    dead_node_text n ++ (when_text m ++ (owner_note s.object (is_node n s.home) ++ (flat_map (fate_at n) s.runs ++ codes ".\n")))

unfoldable pub learned_text : ℕ → List ℕ
learned_text w = codes "w" ++ (decimal w ++ codes " learned")

unfoldable pub worker_note : ℕ → List ℕ
worker_note v = codes " that w" ++ (decimal v ++ codes " was dead.\n")

unfoldable pub node_note : ℕ → List ℕ
node_note n = codes " that n" ++ (decimal n ++ codes " was dead.\n")

-- w1 learned in event 7 (notice 1 2) that w2 was dead.
abbrev pub notice_text : Moment → ℕ → ℕ → List ℕ
notice_text m w v = learned_text w ++ (when_text m ++ worker_note v)

-- w1 learned in event 7 (notice-node 1 2) that n2 was dead.
abbrev pub node_notice_text : Moment → ℕ → ℕ → List ℕ
node_notice_text m w n = learned_text w ++ (when_text m ++ node_note n)

unfoldable pub copies_head : ℕ → List ℕ → Id → List ℕ
copies_head n did o = codes "n" ++ (decimal n ++ (did ++ id_text o))

-- n1 lost its copies of o1.1 in event 9 (lose 1 o1.1).
abbrev pub copies_text : Moment → ℕ → List ℕ → Id → List ℕ
copies_text m n did o = copies_head n did o ++ (when_text m ++ codes ".\n")

abbrev pub event_sentence : Subject → Moment → Event → List ℕ
event_sentence s m (Kill w) = if concerns s w then kill_text s m w else []
event_sentence s m (KillNode n) = if concerns_node s n then node_kill_text s m n else []
event_sentence s m (Notice w v) = if (s.object.owner == w || s.object.owner == v) && concerns s v then notice_text m w v else []
event_sentence s m (NoticeNode w n) = if (s.object.owner == w || is_node n s.home) && concerns_node s n then node_notice_text m w n else []
event_sentence s m (Lose n o) = if is_of_task s o then copies_text m n (codes " lost its copies of ") o else []
event_sentence s m (Evict n o) = if same_id o s.object then copies_text m n (codes " dropped its secondary copies of ") o else []
event_sentence s m _ = []
