-- How many messages of a kind were sent and delivered.
use Rattle.std.specs.Prelude.{Bool, List, None, Option, Some, [], false, if◌then◌else◌, ℕ, ◌+◌, ◌∷◌}
use Rattle.meaning.specs.Meaning.{same_name}
use Rattle.meaning.specs.Values.{Name}
use Rattle.event_log.specs.Entries.{Deliver, Entry, In}
use Rattle.event_log.specs.Events.{from_one, refused_next}
use Rattle.message_text.specs.Messages.{kind_text}
use Rattle.protocol_data.specs.declared.message.Envelope.{Envelope}

abbrev pub is_of_kind : Name → Envelope → Bool
is_of_kind kind l = same_name (kind_text l.message) kind

abbrev pub sent_count : Name → List Envelope → ℕ
sent_count kind [] = 0
sent_count kind (l ∷ ls) = (if is_of_kind kind l then 1 else 0) + sent_count kind ls

abbrev pub is_kind_at : Name → Option Envelope → Bool
is_kind_at kind None = false
is_kind_at kind (Some l) = is_of_kind kind l

abbrev pub delivers : Name → List Envelope → Entry → Bool
delivers kind envelopes (In (Deliver k) seat) = is_kind_at kind (from_one envelopes k)
delivers kind envelopes _ = false

-- an event that was refused delivers nothing
abbrev pub is_delivery : Name → List Envelope → Entry → Bool → Bool
is_delivery kind envelopes x refused = if refused then false else delivers kind envelopes x

-- each time that one is delivered
abbrev pub deliveries : Name → List Envelope → List Entry → ℕ
deliveries kind envelopes [] = 0
deliveries kind envelopes (x ∷ rest) = (if is_delivery kind envelopes x (refused_next rest) then 1 else 0) + deliveries kind envelopes rest
