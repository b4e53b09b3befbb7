-- The spans of events, and the arrows of messages.
use Rattle.std.specs.Prelude.{ℕ, ◌+◌, ◌-◌, ◌==◌, Bool, if◌then◌else◌, List, [], ◌∷◌, ◌++◌, Option, Some, None, map, slice_get, codes}
use Rattle.serde_json.specs.Data.{Data, number, unsigned, string, object, member, no_members}
use Rattle.log_entries.specs.Texts.{event_text}
use Rattle.log_entries.specs.declared.event.Event.{Event}
use Rattle.log_entries.specs.declared.event.Event.TheVariants.{Deliver}
use Rattle.event_log.specs.Entries.{Entry, In}
use Rattle.message_text.specs.Messages.{kind_text}
use Rattle.message_text.specs.Sent.{or_none, sent_behind, envelopes_between}
use Rattle.protocol_data.specs.declared.message.Envelope.{Envelope}
use Rattle.protocol_data.specs.declared.message.Endpoint.{Endpoint}
use Rattle.timeline.specs.declared.rows.Row.{Row}
use Rattle.timeline.specs.Places.{process, thread}
use Rattle.timeline.specs.Endpoints.{envelope_at, receivers, with_senders}

-- an event in the row of one that has a message in it
abbrev pub short_data : List ℕ → List Row → ℕ → Endpoint → Data
short_data name rows clock p =
    object (member (codes "cat") (string (codes "event")) (member (codes "dur") (number (unsigned 1)) (member (codes "name") (string name)
    (member (codes "ph") (string (codes "X")) (member (codes "pid") (number (unsigned (process rows p)))
    (member (codes "tid") (number (unsigned (thread p))) (member (codes "ts") (number (unsigned clock)) no_members)))))))

-- where the arrow of message m begins: with its sender
abbrev pub begin_data : List Row → ℕ → ℕ → Envelope → Data
begin_data rows clock m l =
    object (member (codes "cat") (string (codes "message")) (member (codes "id") (number (unsigned m))
    (member (codes "name") (string (kind_text l.message)) (member (codes "ph") (string (codes "s"))
    (member (codes "pid") (number (unsigned (process rows l.sender))) (member (codes "tid") (number (unsigned (thread l.sender)))
    (member (codes "ts") (number (unsigned clock)) no_members)))))))

-- where it ends: with its receiver, in the span of this event
abbrev pub end_data : List Row → ℕ → ℕ → Envelope → Data
end_data rows clock m l =
    object (member (codes "bp") (string (codes "e")) (member (codes "cat") (string (codes "message")) (member (codes "id") (number (unsigned m))
    (member (codes "name") (string (kind_text l.message)) (member (codes "ph") (string (codes "f"))
    (member (codes "pid") (number (unsigned (process rows l.receiver))) (member (codes "tid") (number (unsigned (thread l.receiver)))
    (member (codes "ts") (number (unsigned clock)) no_members))))))))

-- the event in which the message at that place was delivered first; 0 where there is none
abbrev pub arrival : List ℕ → ℕ → ℕ
arrival arrivals k = or_none (slice_get arrivals k)

abbrev pub envelope_end : List Row → ℕ → ℕ → Option Envelope → List Data
envelope_end rows clock m (Some l) = end_data rows clock m l ∷ []
envelope_end rows clock m None = []

-- the arrow that ends in the event
abbrev pub arrow_ends : List Envelope → List ℕ → List Row → ℕ → Event → List Data
arrow_ends envelopes arrivals rows clock (Deliver m) = if arrival arrivals (m - 1) == clock then envelope_end rows clock m (envelope_at envelopes m) else []
arrow_ends envelopes arrivals rows clock _ = []

-- the arrows that begin in the event, of the messages behind the first k
abbrev pub arrow_begins : List ℕ → List Row → ℕ → ℕ → List Envelope → List Data
arrow_begins arrivals rows clock k [] = []
arrow_begins arrivals rows clock k (l ∷ ls) =
    (if arrival arrivals k == 0 then [] else begin_data rows clock (k + 1) l ∷ []) ++ arrow_begins arrivals rows clock (k + 1) ls

-- the messages that the event sent
abbrev pub own_envelopes : List Envelope → List ℕ → ℕ → List Envelope
own_envelopes envelopes sent clock = envelopes_between envelopes (sent_behind sent (clock - 1)) (sent_behind sent clock)

abbrev pub short_spans : List Envelope → List ℕ → List Row → ℕ → Event → List Data
short_spans envelopes sent rows clock e =
    map (short_data (event_text e) rows clock) (with_senders (receivers envelopes e) (own_envelopes envelopes sent clock))

abbrev pub arrows : List Envelope → List ℕ → List ℕ → List Row → ℕ → Event → List Data
arrows envelopes sent arrivals rows clock e =
    arrow_ends envelopes arrivals rows clock e
    ++ arrow_begins arrivals rows clock (sent_behind sent (clock - 1)) (own_envelopes envelopes sent clock)

abbrev pub event_arrows : List Envelope → List ℕ → List ℕ → List Row → ℕ → Event → List Data
event_arrows envelopes sent arrivals rows clock e = short_spans envelopes sent rows clock e ++ arrows envelopes sent arrivals rows clock e

-- what an entry adds of messages; `refused` says of an event that it is refused
abbrev pub entry_arrows : List Envelope → List ℕ → List ℕ → List Row → ℕ → Entry → Bool → List Data
entry_arrows envelopes sent arrivals rows clock (In e seat) refused = if refused then [] else event_arrows envelopes sent arrivals rows clock e
entry_arrows envelopes sent arrivals rows clock _ refused = []
