-- Worked examples of what is owed: events that pay, one that owes nothing, and altered ones in which a reply is missing.
use Rattle.std.specs.Prelude.{List, [], codes, false, ℕ, ◌==◌, ◌∷◌, if◌then◌else◌}
use Rattle.meaning.specs.Values.{Birth, Task}
use Rattle.event_log.specs.Entries.{Attempt, Begun, Born, Claim, Commit, Deliver, Entry, In, Opened, Refused, Tick, main_attempt}
use Rattle.event_log.specs.Entries.{NotReady}
use Rattle.event_log.specs.Rules.{Setting}
use Rattle.event_log.specs.Words.{attempt}
use Rattle.event_log.specs.Legal.{opening}
use Rattle.protocol_laws.specs.of_protocol.Messages.{Ask, Give, Envelope, Push, TheNode, TheWorker, Wait, envelope}
use Rattle.protocol_laws.specs.of_protocol.Sets.{object_id}
use Rattle.protocol_laws.specs.of_protocol_owed.Owed.{RepliesAreMade}
use Rattle.protocol_laws.specs.of_protocol_owed.Replies.{GiveIsBegun, Happening}
use Rattle.protocol_laws.specs.of_protocol_owed.Seen.{Scene}
use Rattle.protocol_laws.specs.of_protocol_owed.Turns.{ClaimIsAnswered, SlotsAreRight}

-- `remote(0) one()`
abbrev pub one_once : Birth
one_once = Task (codes "one") [] 1 0 0

-- its first attempt
abbrev pub first_one : Attempt
first_one = attempt (object_id 1 1) 0

-- on one node of one slot, where these have a slot
abbrev pub scene : Setting → List Entry → List Envelope → List ℕ → Scene
scene s log network slot_holders =
    record {
      setting = s;
      slots = 1;
      log = log;
      network = network;
      slot_holders = λ n. if n == 1 then slot_holders else [];
      keeps = λ n o number. false;
    }

-- ---- a Give

-- main has asked for it and waits; node 1 has given worker 2
abbrev pub given_log : List Entry
given_log =
    Opened 1 1
    ∷ Begun main_attempt 1
    ∷ In (Claim 1) 0
    ∷ In (Commit 1) 0
    ∷ Born (object_id 1 1) main_attempt one_once
    ∷ In (Deliver 1) 0
    ∷ Opened 2 1
    ∷ []

abbrev pub given_network : List Envelope
given_network = envelope (TheWorker 1) (TheNode 1) (Ask first_one 0) ∷ envelope (TheNode 1) (TheWorker 1) (Give first_one 0 2) ∷ []

-- the Give is delivered, with these entries and envelopes
abbrev pub give_comes : Setting → List Entry → List Envelope → Happening
give_comes s entries envelopes =
    record {
      before = scene s given_log given_network (2 ∷ []);
      event = Deliver 2;
      entries = entries;
      envelopes = envelopes;
      after = scene s given_log given_network (2 ∷ []);
    }

abbrev pub pushed : List Envelope
pushed = envelope (TheWorker 1) (TheWorker 2) (Push first_one one_once) ∷ []

-- it is begun and pushed; and altered, without its Push, or without its beginning
pub record GivesBegin : Type 0 where
  pub paid : (s : Setting) → GiveIsBegun (give_comes s (Begun first_one 2 ∷ []) pushed)
  pub unpushed : (s : Setting) → GiveIsBegun (give_comes s (Begun first_one 2 ∷ []) []) → ⊥
  pub unbegun : (s : Setting) → GiveIsBegun (give_comes s [] pushed) → ⊥

-- ---- a tick

abbrev pub nothing_comes : Setting → Happening
nothing_comes s =
    record {
      before = scene s opening [] (1 ∷ []);
      event = Tick 1;
      entries = [];
      envelopes = [];
      after = scene s opening [] (1 ∷ []);
    }

-- as a run opens, a tick owes nothing
abbrev pub TicksOweNothing : Type 0
TicksOweNothing = (s : Setting) → RepliesAreMade (nothing_comes s)

-- ---- a claim

-- as a run opens worker 1 is ready: it may be given out, and isn't to be answered 31; where it has no slot it is
pub record ClaimsAreJudged : Type 0 where
  pub given_out : (s : Setting) → ClaimIsAnswered (scene s opening [] (1 ∷ [])) (Claim 1) []
  pub not_refused : (s : Setting) → ClaimIsAnswered (scene s opening [] (1 ∷ [])) (Claim 1) (Refused NotReady ∷ []) → ⊥
  pub refused : (s : Setting) → ClaimIsAnswered (scene s opening [] []) (Claim 1) (Refused NotReady ∷ [])
  pub not_given_out : (s : Setting) → ClaimIsAnswered (scene s opening [] []) (Claim 1) [] → ⊥

-- ---- a slot

abbrev pub waiting_network : List Envelope
waiting_network = envelope (TheWorker 1) (TheNode 1) (Ask first_one 0) ∷ envelope (TheNode 1) (TheWorker 1) (Wait first_one 0) ∷ []

-- no slot is free while an ask stands in the queue; worker 1, which may go on, keeps none that it doesn't have
pub record SlotsAreJudged : Type 0 where
  pub free : (s : Setting) → SlotsAreRight (scene s given_log waiting_network []) 1 → ⊥
  pub twice : (s : Setting) → SlotsAreRight (scene s opening [] (1 ∷ 1 ∷ [])) 1 → ⊥
