-- The texts of messages: the kind, and in brackets what it says.
use Rattle.std.specs.Prelude.{ℕ, List, None, Option, Some, [], ◌∷◌, ◌++◌, codes}
use Rattle.std.specs.List.{flat_map}
use Rattle.std.specs.Fmt.{decimal}
use Rattle.report.specs.ValueTexts.{id_text}
use Rattle.meaning.specs.Values.{Id, Birth, Outcome}
use Rattle.event_log.specs.Entries.{Attempt}
use Rattle.report_text.specs.of_report_lines.Texts.{attempt_text, fault_text}
use Rattle.log_words.specs.declared.contents.Contents.{Contents}
use Rattle.log_words.specs.Calls.{birth_text}
use Rattle.log_words.specs.Contents.{content_text}
use Rattle.protocol_data.specs.declared.message.Endpoint.{Endpoint}
use Rattle.protocol_data.specs.declared.message.Endpoint.TheVariants.{TheWorker, TheNode}
use Rattle.protocol_data.specs.declared.message.EndedResult.{EndedResult}
use Rattle.protocol_data.specs.declared.message.Message.{Message}
use Rattle.protocol_data.specs.declared.message.Message.TheVariants.{Ask, Give, Elsewhere, Wait, Back, Push, Finished, FinishedAck, Failed}
use Rattle.protocol_data.specs.declared.message.Message.TheVariants.{Where, At, Gone, Fetch, CopyOf, Missing, Hold, HoldAck, Unhold}
use Rattle.protocol_data.specs.declared.message.Reason.{Reason}
use Rattle.protocol_data.specs.declared.message.Reason.TheVariants.{WasReleased, OwnerIsDead}

-- w2, or n1
abbrev pub endpoint_name : Endpoint → List ℕ
endpoint_name (TheWorker w) = codes "w" ++ decimal w
endpoint_name (TheNode n) = codes "n" ++ decimal n

-- a node behind the first
abbrev pub other_node : ℕ → List ℕ
other_node n = codes ", n" ++ decimal n

abbrev pub inner_nodes : List ℕ → List ℕ
inner_nodes [] = []
inner_nodes (n ∷ ns) = codes "n" ++ (decimal n ++ flat_map other_node ns)

-- [n1, n2]
abbrev pub nodes_text : List ℕ → List ℕ
nodes_text ns = codes "[" ++ (inner_nodes ns ++ codes "]")

-- an object behind the first
abbrev pub other_object : Id → List ℕ
other_object o = codes ", " ++ id_text o

abbrev pub inner_objects : List Id → List ℕ
inner_objects [] = []
inner_objects (o ∷ os) = id_text o ++ flat_map other_object os

-- [o1.1, o2.3]
abbrev pub objects_text : List Id → List ℕ
objects_text os = codes "[" ++ (inner_objects os ++ codes "]")

-- the kind of a message
abbrev pub kind_text : Message → List ℕ
kind_text (Ask a t) = codes "Ask"
kind_text (Give a t w) = codes "Give"
kind_text (Elsewhere a t n) = codes "Elsewhere"
kind_text (Wait a t) = codes "Wait"
kind_text (Back a) = codes "Back"
kind_text (Push a b) = codes "Push"
kind_text (Finished a n rs) = codes "Finished"
kind_text (FinishedAck a) = codes "FinishedAck"
kind_text (Failed a f) = codes "Failed"
kind_text (Where o) = codes "Where"
kind_text (At o k ns kept) = codes "At"
kind_text (Gone o f) = codes "Gone"
kind_text (Fetch o k) = codes "Fetch"
kind_text (CopyOf o k c) = codes "Copy"
kind_text (Missing o k n) = codes "Missing"
kind_text (Hold e o) = codes "Hold"
kind_text (HoldAck e o) = codes "HoldAck"
kind_text (Unhold e o why) = codes "Unhold"

-- Push(a1.1#0, remote(3) sq(7))
abbrev pub push_text : Contents → Attempt → Birth → List ℕ
push_text how a b = codes "Push(" ++ (attempt_text a ++ (codes ", " ++ (birth_text how b ++ codes ")")))

-- a small content that comes along
abbrev pub kept_text : Contents → Option Outcome → List ℕ
kept_text how None = []
kept_text how (Some c) = codes ", " ++ content_text how c

-- what is told of a result: [], 49, or without the content
abbrev pub result_text : Contents → EndedResult → List ℕ
result_text how r = objects_text r.ids ++ kept_text how r.kept

-- so of a result behind the first
abbrev pub other_result : Contents → EndedResult → List ℕ
other_result how r = codes "; " ++ result_text how r

-- [], 49; [o1.2]
abbrev pub results_text : Contents → List EndedResult → List ℕ
results_text how [] = []
results_text how (r ∷ rs) = result_text how r ++ flat_map (other_result how) rs

-- Finished(a1.1#0, n1, [], 49), or with more results: Finished(a1.1#0, n1, [], 49; [o1.2])
abbrev pub finished_text : Contents → Attempt → ℕ → List EndedResult → List ℕ
finished_text how a n rs =
    codes "Finished(" ++ (attempt_text a ++ (codes ", n" ++ (decimal n ++ (codes ", " ++ (results_text how rs ++ codes ")")))))

-- At(o1.1, 0, [n1, n2]), or At(o1.1, 0, [], 49)
abbrev pub at_text : Contents → Id → ℕ → List ℕ → Option Outcome → List ℕ
at_text how o k ns kept = codes "At(" ++ (id_text o ++ (codes ", " ++ (decimal k ++ (codes ", " ++ (nodes_text ns ++ (kept_text how kept ++ codes ")"))))))

-- Copy(o1.1, 0, 49)
abbrev pub copy_text : Contents → Id → ℕ → Outcome → List ℕ
copy_text how o k c = codes "Copy(" ++ (id_text o ++ (codes ", " ++ (decimal k ++ (codes ", " ++ (content_text how c ++ codes ")")))))

-- what carries a task, objects, nodes or a content
abbrev pub carrying_text : Contents → Message → List ℕ
carrying_text how (Push a b) = push_text how a b
carrying_text how (Finished a n rs) = finished_text how a n rs
carrying_text how (At o k ns kept) = at_text how o k ns kept
carrying_text how (CopyOf o k c) = copy_text how o k c
carrying_text how _ = []

-- why one object holds another no more
abbrev pub reason_text : Reason → List ℕ
reason_text WasReleased = codes "Released"
reason_text OwnerIsDead = codes "OwnerDead"

-- Unhold(o2.1, o1.1, Released)
abbrev pub unhold_text : Id → Id → Reason → List ℕ
unhold_text e o why = codes "Unhold(" ++ (id_text e ++ (codes ", " ++ (id_text o ++ (codes ", " ++ (reason_text why ++ codes ")")))))

-- who holds an object, and the others
abbrev pub hold_text : Contents → Message → List ℕ
hold_text how (Hold e o) = codes "Hold(" ++ (id_text e ++ (codes ", " ++ (id_text o ++ codes ")")))
hold_text how (HoldAck e o) = codes "HoldAck(" ++ (id_text e ++ (codes ", " ++ (id_text o ++ codes ")")))
hold_text how (Unhold e o why) = unhold_text e o why
hold_text how m = carrying_text how m

-- where an object is, and the others
abbrev pub place_text : Contents → Message → List ℕ
place_text how (Where o) = codes "Where(" ++ (id_text o ++ codes ")")
place_text how (Fetch o k) = codes "Fetch(" ++ (id_text o ++ (codes ", " ++ (decimal k ++ codes ")")))
place_text how (Missing o k n) = codes "Missing(" ++ (id_text o ++ (codes ", " ++ (decimal k ++ (codes ", n" ++ (decimal n ++ codes ")")))))
place_text how m = hold_text how m

abbrev pub closed_text : Attempt → List ℕ
closed_text a = attempt_text a ++ codes ")"

abbrev pub finished_ack_text : Attempt → List ℕ
finished_ack_text a = codes "FinishedAck(" ++ closed_text a

-- how an attempt stopped, and the others
abbrev pub stop_text : Contents → Message → List ℕ
stop_text how (FinishedAck a) = finished_ack_text a
stop_text how (Back a) = codes "Back(" ++ (attempt_text a ++ codes ")")
stop_text how (Failed a f) = codes "Failed(" ++ (attempt_text a ++ (codes ", " ++ (fault_text f ++ codes ")")))
stop_text how (Gone o f) = codes "Gone(" ++ (id_text o ++ (codes ", " ++ (fault_text f ++ codes ")")))
stop_text how m = place_text how m

-- asks, and the others; `how` says whether the long lists of contents are cut
abbrev pub message_text : Contents → Message → List ℕ
message_text how (Ask a t) = codes "Ask(" ++ (attempt_text a ++ (codes ", " ++ (decimal t ++ codes ")")))
message_text how (Give a t w) = codes "Give(" ++ (attempt_text a ++ (codes ", " ++ (decimal t ++ (codes ", w" ++ (decimal w ++ codes ")")))))
message_text how (Elsewhere a t n) = codes "Elsewhere(" ++ (attempt_text a ++ (codes ", " ++ (decimal t ++ (codes ", n" ++ (decimal n ++ codes ")")))))
message_text how (Wait a t) = codes "Wait(" ++ (attempt_text a ++ (codes ", " ++ (decimal t ++ codes ")")))
message_text how m = stop_text how m
