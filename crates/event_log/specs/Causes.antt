-- Why an event is refused.
use Rattle.std.specs.Prelude.{◌≡◌, ℕ, Bool, true, false, List, [], ◌∷◌, ◌++◌, Option, Some, None, is_some, not}
use Rattle.event_log.specs.Entries.{Event, Claim, Commit, Deliver, Tick, Notice, NoticeNode, Evict, Lose, Kill, KillNode, Join, Entry, In}
use Rattle.event_log.specs.Entries.{Refusal, Pinned, NoCopy, NoWorker, NotReady, NoJob, Stale, NoMessage, NotDead, NoNode, Limit}
use Rattle.event_log.specs.Events.{worker_of_job, is_committed, has_job_out, node_is_killed, node_lives, is_killed, is_live, worker_lives}
use Rattle.event_log.specs.Breaks.{Among}
use Rattle.event_log.specs.Settings.{Setting}

-- the refusal of a cause that is there unless the test holds, else that of the others
abbrev pub unless : Bool → Refusal → Option Refusal → Option Refusal
unless true refusal others = others
unless false refusal others = Some refusal

-- the least of the causes that log, cluster and network show; `handed` says whether what was done on its job comes with a commit, which
-- also needs that the job was given out and isn't committed, and that its worker lives
abbrev pub shown : Setting → List Entry → Bool → Event → Option Refusal
shown s log handed (Claim w) = unless (is_live w log) NoWorker (unless (not (has_job_out w log)) NotReady None)
shown s log handed (Commit j) = unless (is_some (worker_of_job j log)) NoJob (unless (not (is_committed j log)) NoJob
    (unless handed NoJob (unless (worker_lives (worker_of_job j log) log) Stale None)))
shown s log handed (Deliver m) = unless (is_some (s.receiver m)) NoMessage None
shown s log handed (Tick w) = unless (is_live w log) NoWorker None
shown s log handed (Notice w v) = unless (is_live w log) NoWorker (unless (is_killed v log) NotDead None)
shown s log handed (NoticeNode w n) = unless (is_live w log) NoWorker (unless (node_is_killed n log) NotDead None)
shown s log handed (Evict n o) = unless (node_lives s.nodes n log) NoNode None
shown s log handed (Lose n o) = unless (node_lives s.nodes n log) NoNode None
shown s log handed (Kill w) = unless (is_live w log) NoWorker None
shown s log handed (KillNode n) = unless (node_lives s.nodes n log) NoNode None
shown s log handed Join = None

-- why else it may be refused: tables, stores and limits show it; and that there is no such message, since it may have been sent later
abbrev pub unseen : Event → List Refusal
unseen (Claim w) = NotReady ∷ Limit ∷ []
unseen (Deliver m) = NoMessage ∷ Limit ∷ []
unseen (Evict n o) = Pinned ∷ NoCopy ∷ Limit ∷ []
unseen (Lose n o) = NoCopy ∷ Limit ∷ []
unseen _ = Limit ∷ []

abbrev pub IsCauseOf : Option Refusal → Event → Refusal → Type 0
IsCauseOf (Some shown) e refusal = refusal ≡ shown
IsCauseOf None e refusal = Among refusal (unseen e)

-- the refusal is the one that the event shows there; where it shows none, another
abbrev pub IsRefusal : Setting → List Entry → Event → Refusal → Type 0
IsRefusal s log e refusal = (handed : Bool) × IsCauseOf (shown s log handed e) e refusal

-- directly behind an event, for its cause
pub record MayRefuse (s : Setting) (before : List Entry) (refusal : Refusal) : Type 0 where
  pub log : List Entry
  pub event : Event
  pub seat : ℕ
  pub parts : before ≡ log ++ In event seat ∷ []
  pub cause : IsRefusal s log event refusal
