-- Why a worker is as it is.
use Rattle.std.specs.Prelude.{ℕ, Bool, not, ◌&&◌, ◌||◌, ◌==◌, if◌then◌else◌, List, [], ◌∷◌, ◌++◌, codes, Option}
use Rattle.std.specs.List.{flat_map}
use Rattle.meaning.specs.Values.{Id}
use Rattle.event_log.specs.Entries.{Attempt, Event, Kill, KillNode, Notice, NoticeNode}
use Rattle.event_log.specs.Entries.{Entry, In, Opened, Begun, Born, Ended, Accepted, Faulted, Resolved}
use Rattle.event_log.specs.Events.{from_one}
use Rattle.event_log.specs.Words.{births, opened}
use Rattle.log_words.specs.declared.contents.Contents.{Contents}
use Rattle.log_words.specs.of_made_objects.Made.{objects_made}
use Rattle.protocol_data.specs.declared.message.Envelope.{Envelope}
use Rattle.main_text.specs.Links.{worker_text}
use Rattle.why_text.specs.Entries.{accepted_text, began_text, ended_text, faulted_text, given_up_text}
use Rattle.why_text.specs.Events.{node_notice_text, notice_text}
use Rattle.why_text.specs.Moments.{Moment}
use Rattle.why_text.specs.Runs.{is_killed_in, is_node}
use Rattle.endpoint_text.specs.declared.workers.Subject.{Subject as CodeSubject}
use Rattle.endpoint_text.specs.Deaths.{death_text, death_with_text, opened_text, ran_on}
use Rattle.endpoint_text.specs.Lists.{ids_text, is_one_of}

-- a worker, its node, whether it was killed for itself, and the attempts that it ran
pub record Subject : Type 0 where
  pub worker : ℕ
  pub home : Option ℕ
  pub was_killed : Bool
  pub attempts : List Attempt

abbrev pub subject_of : List Entry → ℕ → Subject
subject_of log w = record { worker = w; home = from_one (opened log) w; was_killed = is_killed_in w log; attempts = ran_on log w }

abbrev pub seen_of : CodeSubject → Subject
seen_of s = record { worker = s.worker; home = s.home; was_killed = s.was_killed; attempts = s.attempts.items }

-- it dies with its node, unless it was dead
abbrev pub dies_with : Subject → ℕ → Bool
dies_with s n = is_node n s.home && not s.was_killed

-- its own death, who learned of it, and of which deaths it learned
abbrev pub event_sentence : List Entry → Subject → Moment → Event → List ℕ
event_sentence log s m (Kill w) = if w == s.worker then death_text log m w s.attempts else []
event_sentence log s m (KillNode n) = if dies_with s n then death_with_text log m s.worker n s.attempts else []
event_sentence log s m (Notice w v) = if (w == s.worker) || (v == s.worker) then notice_text m w v else []
event_sentence log s m (NoticeNode w n) = if (w == s.worker) || is_node n s.home then node_notice_text m w n else []
event_sentence log s m _ = []

-- its opening, the beginnings and ends of its attempts, and what it gave up
abbrev pub entry_sentence : Contents → List Entry → List ℕ → List Envelope → Subject → List Entry → Moment → Entry → List ℕ
entry_sentence how log lines envelopes s before m (Opened w n) = if w == s.worker then opened_text log envelopes m w n else []
entry_sentence how log lines envelopes s before m (Begun a w) = if w == s.worker then began_text (births log) lines before m a w else []
entry_sentence how log lines envelopes s before m (Ended a cs) = if is_one_of s.attempts a then ended_text how (births log) m a cs else []
entry_sentence how log lines envelopes s before m (Accepted a) = if is_one_of s.attempts a then accepted_text (births log) before m a else []
entry_sentence how log lines envelopes s before m (Faulted a y f) = if is_one_of s.attempts a then faulted_text (births log) before m a y f else []
entry_sentence how log lines envelopes s before m (Resolved o f) = if o.owner == s.worker then given_up_text m o f else []
entry_sentence how log lines envelopes s before m _ = []

-- a refused event did nothing
unfoldable pub worker_sentence : Contents → List Entry → List ℕ → List Envelope → Subject → List Entry → Moment → Entry → Bool → List ℕ
worker_sentence how log lines envelopes s before m (In e seat) refused = if refused then [] else event_sentence log s m e
worker_sentence how log lines envelopes s before m x refused = entry_sentence how log lines envelopes s before m x

abbrev pub owned_in : ℕ → Entry → List Id
owned_in w (Born o a b) = if o.owner == w then objects_made o b else []
owned_in w _ = []

-- the objects that it made, and so owns
abbrev pub owned_by : List Entry → ℕ → List Id
owned_by log w = flat_map (owned_in w) log

abbrev pub owned_note : Contents → ℕ → List Id → List ℕ
owned_note how w [] = []
owned_note how w (o ∷ rest) = worker_text w ++ (codes " made " ++ (ids_text how (o ∷ rest) ++ codes ".\n"))

-- w2 made o2.1, o2.2.
unfoldable pub owned_text : Contents → List Entry → ℕ → List ℕ
owned_text how log w = owned_note how w (owned_by log w)
