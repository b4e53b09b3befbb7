-- The laws of the whole protocol.
use Rattle.std.proofs.Common.{◌≡◌, List, [], ◌∷◌, ◌++◌, Some, None}
use Rattle.meaning.specs.Mains.{KeepsMainApart}
use Rattle.event_log.specs.Entries.{Entry, Released, main_attempt}
use Rattle.event_log.specs.Rules.{Setting}
use Rattle.event_log.proofs.Growing.{entries_have_their_needs}
use Rattle.holding_steps.specs.of_protocol.Answers.{answer, logged, whole_after}
use Rattle.holding_steps.specs.of_protocol.Cluster.{ClusterState, first_whole}
use Rattle.holding_steps.specs.of_holding.Past.{Begun}
use Rattle.holding_steps.proofs.Keeping.{steps_keep}
use Rattle.protocol_legal.specs.Whole.{setting_of}
use Rattle.protocol_legal.proofs.FrameHolds.{steps_stay_legal}
use Rattle.holding_steps.proofs.of_step_laws.Places.{counted}
use Rattle.holding_steps.specs.of_protocol.Jobs.{JobRecord}
use Rattle.protocol_laws.specs.Sound.{IsSound, JobsAreOut}
use Rattle.protocol_laws.specs.Coming.{AllRight, all_after, log_after}
use Rattle.protocol_laws.specs.Law.{EventsKeepSound, NothingHeldIsReleased, OpeningIsSound, ProtocolStaysLegal, SoundIsLegal}
use Rattle.protocol_laws.proofs.Events.{event_stays}
use Rattle.protocol_owed.specs.Runs.{Handing}

pub opening_is_sound : OpeningIsSound
opening_is_sound s slots some = record { between = steps_stay_legal.opens s slots some; past = Begun main_attempt 1 ∷ []; held = steps_keep.first s.nodes slots; jobs = none_out }
  where
    nothing : (g : JobRecord) → None ≡ Some g → ⊥
    nothing g e = cc

    none_out : JobsAreOut (first_whole s.nodes slots)
    none_out = record { given = λ j g at. absurd (nothing g (counted [] j at)); named = λ j g at. absurd (nothing g (counted [] j at)); out = λ j g x at fresh there. absurd (nothing g (counted [] j at)) }

pub event_keeps_sound : EventsKeepSound
event_keeps_sound s apart log c e seat handed sound right = event_stays s apart log c sound e seat handed right

pub sound_is_legal : SoundIsLegal
sound_is_legal s log c sound = sound.between.legal

events_stay : (s : Setting) → KeepsMainApart s.script → (log : List Entry) (c : ClusterState) (xs : List Handing) → IsSound s log c → AllRight s c xs → IsSound s (log_after log c xs) (all_after c xs)
events_stay s apart log c [] sound right = sound
events_stay s apart log c (x ∷ xs) sound right =
    events_stay s apart (log ++ logged x.event x.seat (answer c x.event x.handed)) (whole_after c (answer c x.event x.handed)) xs
    (event_stays s apart log c sound x.event x.seat x.handed right.0) right.1

pub protocol_stays_legal : ProtocolStaysLegal
protocol_stays_legal s slots some apart xs right =
    (events_stay s apart Rattle.event_log.specs.Legal.opening (first_whole s.nodes slots) xs (opening_is_sound s slots some) right).between.legal

pub nothing_held_is_released : NothingHeldIsReleased
nothing_held_is_released s log c sound before after o parts = (entries_have_their_needs (setting_of s c) log sound.between.legal before (Released o) after parts).allowed.unheld
