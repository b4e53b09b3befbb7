-- Why a node is as it is.
use Rattle.std.specs.Prelude.{ℕ, ◌+◌, ◌-◌, Bool, true, false, not, ◌&&◌, ◌==◌, nat_lt, if◌then◌else◌, List, [], ◌∷◌, ◌++◌, codes, Option, Some, None, slice_get}
use Rattle.std.specs.List.{filter, flat_map, list_any}
use Rattle.meaning.specs.Values.{Id, Outcome, Birth, Put}
use Rattle.meaning.specs.Births.{Bearing, objects_at, same_id}
use Rattle.values.specs.Cells.{is_small}
use Rattle.event_log.specs.Entries.{Attempt, Event, Evict, Join, Kill, KillNode, Lose, NoticeNode}
use Rattle.event_log.specs.Entries.{Entry, In, Opened, Begun, Born, Ended, Released}
use Rattle.event_log.specs.Events.{from_one, refused_next}
use Rattle.event_log.specs.Words.{births, opened}
use Rattle.log_text.specs.Attempts.{named_text}
use Rattle.log_words.specs.declared.contents.Contents.{Contents}
use Rattle.protocol_data.specs.declared.message.Envelope.{Envelope}
use Rattle.main_text.specs.Links.{node_text, worker_text, workers_text}
use Rattle.why_text.specs.Again.{one_before}
use Rattle.why_text.specs.Entries.{began_text}
use Rattle.why_text.specs.Events.{copies_text, dead_node_text, node_notice_text}
use Rattle.why_text.specs.Moments.{Moment, when_text}
use Rattle.why_text.specs.Runs.{is_end_of, is_killed_in, is_node}
use Rattle.endpoint_text.specs.declared.sites.Site.{Site as CodeSite}
use Rattle.endpoint_text.specs.Deaths.{death_text, opened_text, ran_on}
use Rattle.endpoint_text.specs.Lists.{ids_text, is_one_of}

-- the worker of that number is on the node, where `nodes` are those of all workers
abbrev pub is_on : List ℕ → ℕ → ℕ → Bool
is_on nodes n w = is_node n (from_one nodes w)

abbrev pub ran_at_in : List ℕ → ℕ → Entry → List Attempt
ran_at_in nodes n (Begun a w) = if is_on nodes n w then a ∷ [] else []
ran_at_in nodes n _ = []

-- a node, the nodes of all workers, the attempts that ran on its workers, and how many nodes there are in all
pub record Site : Type 0 where
  pub node : ℕ
  pub nodes : List ℕ
  pub attempts : List Attempt
  pub count : ℕ

abbrev pub site_of : List Entry → ℕ → ℕ → Site
site_of log count n = record { node = n; nodes = opened log; attempts = flat_map (ran_at_in (opened log) n) log; count = count }

abbrev pub seen_of : CodeSite → Site
seen_of s = record { node = s.node; nodes = s.nodes.items; attempts = s.attempts.items; count = s.count }

-- ---- how it came

abbrev pub is_join : Entry → Bool
is_join (In Join seat) = true
is_join _ = false

abbrev pub one_join : Entry → List Entry → ℕ
one_join x rest = if is_join x && not (refused_next rest) then 1 else 0

-- how many nodes joined
abbrev pub joined : List Entry → ℕ
joined [] = 0
joined (x ∷ rest) = one_join x rest + joined rest

-- n1 was there at the start.
abbrev pub first_text : ℕ → List ℕ
first_text n = node_text n ++ codes " was there at the start.\n"

-- it is none of those that joined
abbrev pub is_first : List Entry → Site → Bool
is_first log s = nat_lt (s.node + joined log) (s.count + 1)

unfoldable pub first_note : List Entry → Site → List ℕ
first_note log s = if is_first log s then first_text s.node else []

-- n3 joined in event 12 (join, line 3).
abbrev pub join_text : Moment → ℕ → List ℕ
join_text m n = node_text n ++ (codes " joined" ++ (when_text m ++ codes ".\n"))

-- it is the node that joins behind those entries
abbrev pub joins_now : List Entry → Site → List Entry → Bool
joins_now log s before = s.count + joined before + 1 == s.node + joined log

-- ---- its death

-- an attempt on it that breaks with it: one that never ended, of a worker that wasn't killed for itself
abbrev pub is_broken : List Entry → Site → Attempt → ℕ → Bool
is_broken log s a w = is_on s.nodes s.node w && (not (is_killed_in w log) && not (list_any (is_end_of a) log))

-- a1.2#0 (part) broke on w3.
abbrev pub broke_line : List Entry → Attempt → ℕ → List ℕ
broke_line log a w = named_text (births log) a ++ (codes " broke on " ++ (worker_text w ++ codes ".\n"))

abbrev pub broken_in : List Entry → Site → Entry → List ℕ
broken_in log s (Begun a w) = if is_broken log s a w then broke_line log a w else []
broken_in log s _ = []

abbrev pub broken_lines : List Entry → Site → List ℕ
broken_lines log s = flat_map (broken_in log s) log

-- a worker that dies with it
abbrev pub dying_in : List Entry → ℕ → Entry → List ℕ
dying_in log n (Opened w v) = if (v == n) && not (is_killed_in w log) then w ∷ [] else []
dying_in log n _ = []

abbrev pub dying : List Entry → ℕ → List ℕ
dying log n = flat_map (dying_in log n) log

abbrev pub with_note : List ℕ → List ℕ
with_note [] = []
with_note (w ∷ ws) = codes ", and with it " ++ workers_text (w ∷ ws)

-- n2 died in event 20 (kill-node 2, line 2), and with it w3, w4.
abbrev pub death_line : List Entry → Moment → ℕ → List ℕ
death_line log m n = dead_node_text n ++ (when_text m ++ (with_note (dying log n) ++ codes ".\n"))

-- ---- its primary copies

abbrev pub without : List Id → Id → List Id
without ids o = filter (λ p. not (same_id p o)) ids

-- once, behind the others
abbrev pub with_one : List Id → Id → List Id
with_one ids o = without ids o ++ o ∷ []

abbrev pub is_put : Birth → Bool
is_put (Put v) = true
is_put _ = false

abbrev pub born_there : Site → Id → Birth → Bool
born_there s o b = is_put b && is_on s.nodes s.node o.owner

abbrev pub is_large_one : Option Outcome → Bool
is_large_one None = false
is_large_one (Some c) = not (is_small c)

-- the content of the object is large, of those with which the attempt ended
unfoldable pub is_large_result : Attempt → List Outcome → Id → Bool
is_large_result a cs o = is_large_one (slice_get cs (o.serial - a.object.serial))

abbrev pub large_results : List Bearing → Attempt → List Outcome → List Id
large_results births a cs = filter (is_large_result a cs) (objects_at births a.object)

-- those with large contents, of an attempt on it
abbrev pub ended_there : List Bearing → Site → Attempt → List Outcome → List Id
ended_there births s a cs = if is_one_of s.attempts a then large_results births a cs else []

abbrev pub without_if : Bool → List Id → Id → List Id
without_if there ids o = if there then without ids o else ids

abbrev pub with_if : Bool → List Id → Id → List Id
with_if there ids o = if there then with_one ids o else ids

abbrev pub with_all : List Id → List Id → List Id
with_all ids [] = ids
with_all ids (o ∷ os) = with_all (with_one ids o) os

-- the objects whose primary copy is there behind the entry, of those before it
abbrev pub copies_after : List Bearing → Site → List Id → Entry → Bool → List Id
copies_after births s ids (Born o a b) refused = with_if (born_there s o b) ids o
copies_after births s ids (Ended a cs) refused = with_all ids (ended_there births s a cs)
copies_after births s ids (Released o) refused = without ids o
copies_after births s ids (In (Lose n o) seat) refused = without_if ((n == s.node) && not refused) ids o
copies_after births s ids _ refused = ids

abbrev pub copies_from : List Bearing → Site → List Id → List Entry → List Id
copies_from births s ids [] = ids
copies_from births s ids (x ∷ rest) = copies_from births s (copies_after births s ids x (refused_next rest)) rest

-- n2 lost the primary copies of o1.2, o1.5.
abbrev pub lost_note : Contents → ℕ → List Id → List ℕ
lost_note how n [] = []
lost_note how n (o ∷ rest) = node_text n ++ (codes " lost the primary copies of " ++ (ids_text how (o ∷ rest) ++ codes ".\n"))

unfoldable pub lost_text : Contents → List Bearing → Site → List Entry → List ℕ
lost_text how births s before = lost_note how s.node (copies_from births s [] before)

unfoldable pub node_death : Contents → List Entry → Site → List Entry → Moment → List ℕ
node_death how log s before m = death_line log m s.node ++ (broken_lines log s ++ lost_text how (births log) s before)

-- ---- entry by entry

abbrev pub worker_death : List Entry → Moment → ℕ → List ℕ
worker_death log m w = death_text log m w (ran_on log w)

abbrev pub event_sentence : Contents → List Entry → Site → List Entry → Moment → Event → List ℕ
event_sentence how log s before m Join = if joins_now log s before then join_text m s.node else []
event_sentence how log s before m (Kill w) = if is_on s.nodes s.node w then worker_death log m w else []
event_sentence how log s before m (KillNode n) = if n == s.node then node_death how log s before m else []
event_sentence how log s before m (NoticeNode w n) = if n == s.node then node_notice_text m w n else []
event_sentence how log s before m (Lose n o) = if n == s.node then copies_text m n (codes " lost its copies of ") o else []
event_sentence how log s before m (Evict n o) = if n == s.node then copies_text m n (codes " dropped its secondary copies of ") o else []
event_sentence how log s before m _ = []

-- a later attempt, whose one before ran there
abbrev pub is_again : Site → Attempt → Bool
is_again s a = not (a.number == 0) && is_one_of s.attempts (one_before a)

-- its workers, and what was made again of what ran on them
abbrev pub entry_sentence : List Entry → List ℕ → List Envelope → Site → List Entry → Moment → Entry → List ℕ
entry_sentence log lines envelopes s before m (Opened w n) = if n == s.node then opened_text log envelopes m w n else []
entry_sentence log lines envelopes s before m (Begun a w) = if is_again s a then began_text (births log) lines before m a w else []
entry_sentence log lines envelopes s before m _ = []

-- a refused event did nothing
unfoldable pub node_sentence : Contents → List Entry → List ℕ → List Envelope → Site → List Entry → Moment → Entry → Bool → List ℕ
node_sentence how log lines envelopes s before m (In e seat) refused = if refused then [] else event_sentence how log s before m e
node_sentence how log lines envelopes s before m x refused = entry_sentence log lines envelopes s before m x
