-- What is said of an object.
use Rattle.std.specs.Prelude.{ℕ, Bool, false, not, ◌&&◌, ◌||◌, ◌==◌, List, [], ◌∷◌}
use Rattle.std.specs.List.{list_any}
use Rattle.meaning.specs.Values.{Id}
use Rattle.meaning.specs.Births.{same_id}
use Rattle.log_words.specs.of_event_log.Entries.{Event, Notice, NoticeNode, Evict, Lose, Kill, KillNode, Entry, In, Begun, Born, Got, Ended, Accepted, Faulted}
use Rattle.log_words.specs.of_event_log.Entries.{Resolved, Released}
use Rattle.log_words.specs.of_event_log.Events.{refused_next}
use Rattle.log_text.specs.Mentions.{is_among, is_in_birth, is_in_content, is_in_contents}
use Rattle.log_text.specs.Runners.{Subject}
use Rattle.log_text.specs.declared.runners.Subject.{Subject as CodeSubject}

abbrev pub seen_of : CodeSubject → Subject
seen_of s = record { object = s.object; task = s.task; results = s.results.items; workers = s.workers.items; nodes = s.nodes.items }

-- the entry names the object, or an attempt of its task; a birth is named by its first object, as the attempts are
unfoldable pub is_about : Subject → Entry → Bool
is_about s (Begun a w) = same_id a.object s.task
is_about s (Born p a b) = same_id p s.task || is_in_birth s.object b
is_about s (Got a y c) = same_id a.object s.task || (same_id y s.object || is_in_content s.object c)
is_about s (Ended a cs) = same_id a.object s.task || is_in_contents s.object cs
is_about s (Accepted a) = same_id a.object s.task
is_about s (Faulted a y f) = same_id a.object s.task || (same_id y s.object || same_id f.object s.object)
is_about s (Resolved p f) = same_id p s.object || same_id f.object s.object
is_about s (Released p) = same_id p s.object
is_about s _ = false

abbrev pub is_one : List ℕ → ℕ → Bool
is_one ns n = list_any (λ m. m == n) ns

-- it is the object, or another result of its task, with which the object is made again
unfoldable pub is_of_task : Subject → Id → Bool
is_of_task s o = same_id o s.object || is_among o s.results

-- the event befalls the object, another result of its task, a worker that ran an attempt of it, or the node of one
unfoldable pub befalls : Subject → Event → Bool
befalls s (Kill w) = is_one s.workers w
befalls s (KillNode n) = is_one s.nodes n
befalls s (Notice w v) = is_one s.workers v
befalls s (NoticeNode w n) = is_one s.nodes n
befalls s (Evict n o) = same_id o s.object
befalls s (Lose n o) = is_of_task s o
befalls s _ = false

-- something about the object came of the event to which these entries belong
abbrev pub is_ahead : Subject → List Entry → Bool
is_ahead s [] = false
is_ahead s (In e seat ∷ rest) = false
is_ahead s (x ∷ rest) = is_about s x || is_ahead s rest

-- a refused event does nothing
abbrev pub is_event_shown : Subject → Event → List Entry → Bool
is_event_shown s e rest = (not (refused_next rest) && befalls s e) || is_ahead s rest

-- the entry belongs to the object's story
abbrev pub is_shown : Subject → Entry → List Entry → Bool
is_shown s (In e seat) rest = is_event_shown s e rest
is_shown s x rest = is_about s x
