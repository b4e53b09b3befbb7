-- Why events are refused, as the log shows it.
use Rattle.std.specs.Prelude.{◌≡◌, List, None, Option, Some, [], ◌∷◌}
use Rattle.event_log.specs.Breaks.{Among}
use Rattle.event_log.specs.Causes.{shown}
use Rattle.event_log.specs.Entries.{Claim, Entry, Event, Evict, Lose}
use Rattle.event_log.specs.Entries.{Refusal, Pinned, NoCopy, NoWorker, NotReady, NoJob, Stale, NoMessage, NotDead, NoNode, Limit}
use Rattle.event_log.specs.Rules.{Setting}
use Rattle.holding_steps.specs.of_protocol.Answers.{Answer, Refuses, Takes, answer}
use Rattle.holding_steps.specs.of_protocol.Jobs.{CommitInput}
use Rattle.holding_steps.specs.of_protocol.Refusals.{is_of_job}
use Rattle.holding_steps.specs.of_protocol.Cluster.{ClusterState}
use Rattle.protocol_legal.specs.Whole.{setting_of}
use Rattle.protocol_laws.specs.Sound.{IsSound}

-- the refusal, if it is one
abbrev pub refusal_of : Answer → Option Refusal
refusal_of (Takes step) = None
refusal_of (Refuses refusal) = Some refusal

-- what the log doesn't show: a limit would be passed; the attempt isn't ready; the copy is pinned, or there is none
abbrev pub hidden : Event → List Refusal
hidden (Claim w) = Limit ∷ NotReady ∷ []
hidden (Evict n o) = Limit ∷ Pinned ∷ NoCopy ∷ []
hidden (Lose n o) = Limit ∷ NoCopy ∷ []
hidden _ = Limit ∷ []

-- the event is accepted, or refused for what the log doesn't show
abbrev pub IsHidden : Event → Option Refusal → Type 0
IsHidden e None = Unit {0}
IsHidden e (Some refusal) = Among refusal (hidden e)

-- the event is refused for what is shown; where nothing is, for what the log doesn't show, if at all
abbrev pub IsAsShown : Event → Option Refusal → Option Refusal → Type 0
IsAsShown e (Some why) refusal = refusal ≡ Some why
IsAsShown e None refusal = IsHidden e refusal

-- each event of a sound run is answered as its log shows, beside the network as it is and what is handed in
abbrev pub RefusalsAreAsShown : Type 0
RefusalsAreAsShown =
    (s : Setting) (log : List Entry) (c : ClusterState) → IsSound s log c → (e : Event) (handed : CommitInput) →
    IsAsShown e (shown (setting_of s c) log (is_of_job handed) e) (refusal_of (answer c e handed))

-- no such live worker, no such job, its worker is dead, no such message, what the notice tells of isn't dead, no such live node
abbrev pub in_the_log : List Refusal
in_the_log = NoWorker ∷ NoJob ∷ Stale ∷ NoMessage ∷ NotDead ∷ NoNode ∷ []

-- the one is that refusal exactly where the other is
pub record AreAlike (why : Refusal) (refusal other : Option Refusal) : Type 0 where
  pub there : refusal ≡ Some why → other ≡ Some why
  pub back : other ≡ Some why → refusal ≡ Some why

-- each of these refusals is answered exactly where the log shows it
abbrev pub RefusalsAreShown : Type 0
RefusalsAreShown =
    (s : Setting) (log : List Entry) (c : ClusterState) → IsSound s log c → (e : Event) (handed : CommitInput) → (why : Refusal) → Among why in_the_log →
    AreAlike why (refusal_of (answer c e handed)) (shown (setting_of s c) log (is_of_job handed) e)
