-- Contents that the log knows.
use Rattle.std.proofs.Common.{◌≡◌, ℕ, zero, suc, List, [], ◌∷◌, ◌++◌, Option, Some, None, refl, sym, subst, inl, inr}
use Rattle.std.specs.Prelude.{if◌then◌else◌}
use Rattle.std.specs.List.{flat_map}
use Rattle.meaning.proofs.BirthLaws.{at_test}
use Rattle.meaning.specs.Values.{Id, Outcome}
use Rattle.event_log.specs.Breaks.{Among}
use Rattle.event_log.specs.Entries.{Accepted, Attempt, Begun, Born, Ended, Entry, Faulted, Got, In, Opened, Printed, Refused, Released, Resolved}
use Rattle.event_log.specs.Rules.{Setting}
use Rattle.event_log.specs.Words.{attempt, ended_in, same_attempt}
use Rattle.event_log.proofs.WordLaws.{same_attempt-true}
use Rattle.protocol.specs.Messages.{At, Envelope, TheWorker, envelope}
use Rattle.protocol.specs.Cluster.{ClusterState}
use Rattle.lease_discipline.specs.of_protocol_legal.Made.{IsCarried, IsCopy}
use Rattle.lease_discipline.specs.of_protocol_legal.Past.{past}
use Rattle.lease_discipline.specs.of_protocol_legal.Says.{Says}
use Rattle.lease_discipline.specs.of_protocol_legal.Whole.{Between}
use Rattle.protocol_owed.specs.Seen.{IsContentOf}
use Rattle.protocol_owed.proofs.Envelopes.{among-behind, among-nothing}
use Rattle.owed_replies.proofs.Advancing.{all_among, flat_among}

pub ended_entry : (es : List Entry) (a : Attempt) (c : List Outcome) → Among c (flat_map (ended_in a) es) → Among (Ended a c) es
ended_entry es a c i = let r = flat_among (ended_in a) es c i in by_entry r.0 r.2 r.1
  where
    none : {X : Type 0} → Among c [] → X
    none h = absurd (among-nothing c h)

    by_entry : (x : Entry) → Among c (ended_in a x) → Among x es → Among (Ended a c) es
    by_entry (Ended d f) j k = at_test (λ t. same_attempt d a ≡ t → Among c (if t then f ∷ [] else []) → Among (Ended a c) es) (same_attempt d a)
        (λ _ e h. subst (λ b. Among (Ended b c) es) (same_attempt-true d a e) (subst (λ g. Among (Ended d g) es) (only f h) k)) (λ _ _ h. none h) refl j
      where
        only : (f : List Outcome) → Among c (f ∷ []) → f ≡ c
        only f (zero, e) = cc
        only f (suc m, e) = absurd (cc)
    by_entry (In e seat) j k = none j
    by_entry (Refused code) j k = none j
    by_entry (Opened w n) j k = none j
    by_entry (Begun b w) j k = none j
    by_entry (Born o b d) j k = none j
    by_entry (Got b y d) j k = none j
    by_entry (Printed v) j k = none j
    by_entry (Accepted b) j k = none j
    by_entry (Faulted b y f) j k = none j
    by_entry (Resolved o f) j k = none j
    by_entry (Released o) j k = none j

-- what is true of a copy is so by the entries
pub copy_known : (log : List Entry) (y : Id) (number : ℕ) (c : Outcome) → IsCopy log y number c → IsContentOf log y number c
copy_known log y number c (inl put) = inl put
copy_known log y number c (inr (part, r)) =
    let ended : Among (Ended (attempt part.born.object number) r.contents) log = ended_entry log (attempt part.born.object number) r.contents r.ended in
    inr (part, record { born = r.born; contents = r.contents; ended = ended; content = r.content })

carried_known : (log : List Entry) (y : Id) (number : ℕ) (kept : Option Outcome) → IsCarried log y number kept → (c : Outcome) → kept ≡ Some c →
    IsContentOf log y number c
carried_known log y number None is c e = absurd (cc)
carried_known log y number (Some d) is c e = let same : d ≡ c = cc in copy_known log y number c (subst (IsCopy log y number) same is)

-- what comes with a place that was ever sent is the object's content
pub sent_known : (s : Setting) (log : List Entry) (c : ClusterState) → Between s log c → (v w number : ℕ) (y : Id) (nodes : List ℕ) (kept : Option Outcome) →
    Among (envelope (TheWorker v) (TheWorker w) (At y number nodes kept)) c.network → (d : Outcome) → kept ≡ Some d → IsContentOf log y number d
sent_known s log c b v w number y nodes kept sent =
    carried_known log y number kept
    (all_among (Says (past log b.asked)) c.network (envelope (TheWorker v) (TheWorker w) (At y number nodes kept)) b.knows.told sent).1

-- what comes with each place among these is the object's content
abbrev pub AtsAreKnown : List Entry → List Envelope → Type 0
AtsAreKnown log envelopes =
    (v w number : ℕ) (y : Id) (nodes : List ℕ) (kept : Option Outcome) → Among (envelope (TheWorker v) (TheWorker w) (At y number nodes kept)) envelopes →
    (d : Outcome) → kept ≡ Some d → IsContentOf log y number d

pub sent_are_known : (s : Setting) (log : List Entry) (c d : ClusterState) (envelopes : List Envelope) → Between s log d → d.network ≡ c.network ++ envelopes → AtsAreKnown log envelopes
sent_are_known s log c d envelopes b network v w number y nodes kept sent =
    sent_known s log d b v w number y nodes kept
    (subst (λ ls. Among (envelope (TheWorker v) (TheWorker w) (At y number nodes kept)) ls) (sym network) (among-behind c.network envelopes _ sent))
