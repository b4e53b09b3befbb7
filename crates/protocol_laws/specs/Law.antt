-- The laws of the whole protocol.
use Rattle.std.specs.Prelude.{◌≡◌, ◌<◌, ℕ, List, ◌∷◌, ◌++◌}
use Rattle.event_log.specs.Entries.{Entry, Event, Released}
use Rattle.event_log.specs.Holding.{IsHeld}
use Rattle.event_log.specs.Legal.{Legal, opening}
use Rattle.event_log.specs.Rules.{Setting}
use Rattle.meaning.specs.Mains.{KeepsMainApart}
use Rattle.meaning.specs.Values.{Id}
use Rattle.holding_steps.specs.of_protocol.Answers.{answer, logged, whole_after}
use Rattle.holding_steps.specs.of_protocol.Jobs.{CommitInput}
use Rattle.holding_steps.specs.of_protocol.Cluster.{ClusterState, first_whole}
use Rattle.protocol_legal.specs.Whole.{setting_of}
use Rattle.protocol_laws.specs.Coming.{AllRight, IsRight, all_after, log_after}
use Rattle.protocol_laws.specs.Sound.{IsSound}
use Rattle.protocol_owed.specs.Runs.{Handing}

-- in a cluster that has a node a run begins sound
abbrev pub OpeningIsSound : Type 0
OpeningIsSound = (s : Setting) (slots : ℕ) → 0 < s.nodes → IsSound s opening (first_whole s.nodes slots)

-- where no function of the script calls main and none but main prints, each event keeps a run sound, accepted or refused
abbrev pub EventsKeepSound : Type 0
EventsKeepSound =
    (s : Setting) → KeepsMainApart s.script → (log : List Entry) (c : ClusterState) (e : Event) (seat : ℕ) (handed : CommitInput) →
    IsSound s log c → IsRight s c e handed → IsSound s (log ++ logged e seat (answer c e handed)) (whole_after c (answer c e handed))

-- the log of a sound run is legal, beside the network as it is
abbrev pub SoundIsLegal : Type 0
SoundIsLegal = (s : Setting) (log : List Entry) (c : ClusterState) → IsSound s log c → Legal (setting_of s c) log

-- whatever list of events comes, the log that the protocol writes of it is legal
abbrev pub ProtocolStaysLegal : Type 0
ProtocolStaysLegal =
    (s : Setting) (slots : ℕ) → 0 < s.nodes → KeepsMainApart s.script → (xs : List Handing) → AllRight s (first_whole s.nodes slots) xs →
    Legal (setting_of s (all_after (first_whole s.nodes slots) xs)) (log_after opening (first_whole s.nodes slots) xs)

-- what is released behind the opening isn't held where it is released
abbrev pub NothingHeldIsReleased : Type 0
NothingHeldIsReleased =
    (s : Setting) (log : List Entry) (c : ClusterState) → IsSound s log c → (before after : List Entry) (o : Id) →
    log ≡ opening ++ (before ++ Released o ∷ after) → IsHeld o (opening ++ before) → ⊥
