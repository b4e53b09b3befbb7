-- A whole run: the opening, then event after event, as events or as lines that stand for those of the settle rule. Its log is the opening's
-- entries and what each event adds.
use Rattle.std.specs.Prelude.{List, None, Option, Some, [], map, suc, take, zero, ℕ, ◌++◌, ◌==◌, ◌≡◌, ◌∷◌}
use Rattle.std.specs.List.{find}
use Rattle.protocol_data.specs.of_event_log.Entries.{Commit, Entry, Event}
use Rattle.protocol_data.specs.of_event_log.Legal.{opening}
use Rattle.protocol.specs.Messages.{Envelope}
use Rattle.protocol.specs.Jobs.{CommitInput, Job, Nothing, OfJob, Outcomes}
use Rattle.protocol.specs.Cluster.{ClusterState, first_whole}
use Rattle.protocol.specs.Answers.{Answer, Refuses, Takes, answer, logged, whole_after}
use Rattle.protocol.specs.Settling.{next}

-- a whole, what was logged on the way to it, and the jobs that were given out
pub record Played : Type 0 where
  pub whole : ClusterState
  pub log : List Entry
  pub given : List Job

-- a run as it opens: worker 1 is opened on node 1, and main begins
abbrev pub first_played : ℕ → ℕ → Played
first_played nodes slots = record { whole = first_whole nodes slots; log = opening; given = [] }

-- the job that was given out, if one was
abbrev pub listed : Option Job → List Job
listed None = []
listed (Some job) = job ∷ []

-- the job that the event gave out, if it did
abbrev pub given_in : Answer → List Job
given_in (Takes s) = listed s.given
given_in (Refuses code) = []

-- the run after an event with that answer
abbrev pub answered : Played → Event → Answer → Played
answered c e a = record { whole = whole_after c.whole a; log = c.log ++ logged e 0 a; given = c.given ++ given_in a }

-- the run after an event, with what is handed in
abbrev pub happened : Played → Event → CommitInput → Played
happened c e handed = answered c e (answer c.whole e handed)

-- ---- what is handed in

-- what a job comes to
pub record Doing : Type 0 where
  pub job : ℕ
  pub outcomes : Outcomes

-- job j comes to d
abbrev pub doing : ℕ → Outcomes → Doing
doing j d = record { job = j; outcomes = d }

-- what was done on the job, if it is known
abbrev pub handed_by : Option Doing → CommitInput
handed_by None = Nothing
handed_by (Some x) = OfJob x.outcomes

-- with a commit comes what its job came to
abbrev pub handed_for : Event → List Doing → CommitInput
handed_for (Commit j) ds = handed_by (find (λ d. d.job == j) ds)
handed_for _ ds = Nothing

-- ---- lines

-- an event, or all events that the settle rule names, without those of some workers
pub data Line : Type 0 where
  Does : (e : Event) → Line
  Settles : (but : List ℕ) → Line

-- a line for each event
abbrev pub does_all : List Event → List Line
does_all es = map (λ e. Does e) es

-- the events that the rule names, one after the other, n at most
abbrev pub settles : ℕ → List ℕ → List Doing → Played → Option Event → Played
settles zero but ds c e = c
settles (suc n) but ds c None = c
settles (suc n) but ds c (Some e) = let d : Played = happened c e (handed_for e ds) in settles n but ds d (next d.whole but)

-- the run after a line; in worked runs the rule names at most 1,000 events
abbrev pub plays_line : List Doing → Played → Line → Played
plays_line ds c (Does e) = happened c e (handed_for e ds)
plays_line ds c (Settles but) = settles 1000 but ds c (next c.whole but)

-- the run after these lines
abbrev pub plays : List Doing → Played → List Line → Played
plays ds c [] = c
plays ds c (l ∷ ls) = plays ds (plays_line ds c l) ls

-- ---- what can be seen

-- the log, the messages, and the jobs
pub record Seen : Type 0 where
  pub log : List Entry
  pub envelopes : List Envelope
  pub given : List Job

-- what can be seen of a run
abbrev pub seen : Played → Seen
seen c = record { log = c.log; envelopes = c.whole.network; given = c.given }

-- so many entries, messages and jobs of it
abbrev pub first_part : ℕ → ℕ → ℕ → Seen → Seen
first_part entries envelopes given s = record { log = take entries s.log; envelopes = take envelopes s.envelopes; given = take given s.given }

-- the same with one more entry
abbrev pub with_entry : Seen → Entry → Seen
with_entry s e = record s { log = s.log ++ e ∷ [] }

-- on so many nodes with so many slots each, where jobs come to these doings, the lines make this log, these messages and these jobs
abbrev pub IsRun : ℕ → ℕ → List Doing → List Line → Seen → Type 0
IsRun nodes slots ds ls s = seen (plays ds (first_played nodes slots) ls) ≡ s
