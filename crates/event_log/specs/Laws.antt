-- What holds of every legal log: of its beginnings, of one more event, of its entries, faults and totals.
use Rattle.std.specs.Prelude.{◌≡◌, ℕ, ◌+◌, Bool, true, false, List, [], ◌∷◌, ◌++◌, length, Option, Some, None}
use Rattle.script_laws.specs.of_meaning.Values.{Id}
use Rattle.event_log.specs.Entries.{Attempt, Fault, Event, Claim, Commit, Entry, In, Refused, Faulted, Resolved}
use Rattle.event_log.specs.Entries.{Refusal}
use Rattle.event_log.specs.Events.{refused_next, claims}
use Rattle.event_log.specs.Breaks.{Cause}
use Rattle.event_log.specs.Rules.{Receiver, Setting, Allowed}
use Rattle.event_log.specs.Legal.{has_event, Happens, Answered, EachAllowed, Legal, opening}
use Rattle.event_log.specs.Causes.{shown, IsRefusal}
use Rattle.event_log.specs.Books.{Totals, totals_of}

-- ---- beginnings and more events

-- what stands before an event of a legal log is legal
abbrev pub BeginningsAreLegal : Type 0
BeginningsAreLegal =
    (s : Setting) (log : List Entry) (e : Event) (seat : ℕ) (rest : List Entry) → Legal s (log ++ In e seat ∷ rest) → Legal s log

-- an event that isn't refused may add these entries to the log
pub record MayAdd (s : Setting) (log : List Entry) (e : Event) (seat : ℕ) (es : List Entry) : Type 0 where
  pub no_event : has_event es ≡ false
  pub unrefused : refused_next es ≡ false
  pub happens : Happens s log e es
  pub each : EachAllowed s (log ++ In e seat ∷ []) es

-- a legal log stays legal with one more event: refused for its cause, or with what it may add
pub record StaysLegal (s : Setting) (log : List Entry) (e : Event) (seat : ℕ) : Type 0 where
  pub refused : (code : Refusal) → IsRefusal s log e code → Legal s (log ++ In e seat ∷ Refused code ∷ [])
  pub added : (es : List Entry) → MayAdd s log e seat es → Legal s (log ++ In e seat ∷ es)

abbrev pub LegalLogsGrow : Type 0
LegalLogsGrow = (s : Setting) (log : List Entry) (e : Event) (seat : ℕ) → Legal s log → StaysLegal s log e seat

-- ---- what stands in a legal log

-- an entry behind the opening has what it needs, of those before it and of those that come
pub record HasItsNeeds (s : Setting) (before : List Entry) (x : Entry) (es : List Entry) : Type 0 where
  pub allowed : Allowed s before x
  pub answered : Answered s before x es

abbrev pub EntriesHaveTheirNeeds : Type 0
EntriesHaveTheirNeeds =
    (s : Setting) (log : List Entry) → Legal s log →
    (before : List Entry) (x : Entry) (es : List Entry) → log ≡ opening ++ (before ++ x ∷ es) → HasItsNeeds s (opening ++ before) x es

-- the cause of each fault stands earlier in the log
pub record FaultsHaveCauses (log : List Entry) : Type 0 where
  pub faulted : (before : List Entry) (a : Attempt) (y : Id) (f : Fault) (es : List Entry) → log ≡ before ++ Faulted a y f ∷ es → Cause before f
  pub resolved : (before : List Entry) (o : Id) (f : Fault) (es : List Entry) → log ≡ before ++ Resolved o f ∷ es → Cause before f

abbrev pub LegalFaultsHaveCauses : Type 0
LegalFaultsHaveCauses = (s : Setting) (log : List Entry) → Legal s log → FaultsHaveCauses log

-- ---- totals

abbrev pub nothing : Totals
nothing = record { events = 0; given = 0; commits = 0; committed = 0 }

abbrev pub plus : Totals → Totals → Totals
plus t u = record { events = t.events + u.events; given = t.given + u.given; commits = t.commits + u.commits; committed = t.committed + u.committed }

-- what an accepted event adds beside itself, where so many claims were accepted before
abbrev pub accepted_totals : ℕ → Event → Totals
accepted_totals claims (Claim w) = record nothing { given = claims + 1 }
accepted_totals claims (Commit j) = record nothing { commits = 1; committed = j }
accepted_totals claims _ = nothing

abbrev pub answered_totals : Bool → ℕ → Event → Totals
answered_totals true claims e = nothing
answered_totals false claims e = accepted_totals claims e

abbrev pub event_totals : ℕ → Event → List Entry → Totals
event_totals claims e es = record (answered_totals (refused_next es) claims e) { events = 1 }

-- the totals are sums over the events: each adds its own
pub record TotalsAreSums (log : List Entry) : Type 0 where
  pub none : totals_of [] ≡ nothing
  pub more :
      (e : Event) (seat : ℕ) (es : List Entry) → has_event es ≡ false →
      totals_of (log ++ In e seat ∷ es) ≡ plus (totals_of log) (event_totals (length (claims log)) e es)

abbrev pub LawOfTotals : Type 0
LawOfTotals = (log : List Entry) → TotalsAreSums log

-- ---- refusals

abbrev pub is_commit : Event → Bool
is_commit (Commit j) = true
is_commit _ = false

-- where an event shows no cause it may be accepted, but that a commit also needs its entries; and where it may be accepted, it
-- shows no cause
pub record CausesAreNeeds (s : Setting) (log : List Entry) (e : Event) (es : List Entry) : Type 0 where
  pub accepted : (handed : Bool) → is_commit e ≡ false → shown s log handed e ≡ None → Happens s log e es
  pub unrefused : Happens s log e es → shown s log true e ≡ None

abbrev pub LawOfCauses : Type 0
LawOfCauses = (s : Setting) (log : List Entry) (e : Event) (es : List Entry) → CausesAreNeeds s log e es

-- ---- the network

-- the same, but beside a network that says of more messages to whom they go
abbrev pub with_receiver : Setting → (ℕ → Option Receiver) → Setting
with_receiver s receiver = record s { receiver = receiver }

-- a legal log stays legal as messages are added to the network
abbrev pub LegalInLargerNetworks : Type 0
LegalInLargerNetworks =
    (s : Setting) (receiver : ℕ → Option Receiver) (log : List Entry) →
    ((m : ℕ) (r : Receiver) → s.receiver m ≡ Some r → receiver m ≡ Some r) → Legal s log → Legal (with_receiver s receiver) log
