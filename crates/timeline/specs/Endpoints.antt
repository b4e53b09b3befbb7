-- Who has a message in an event.
use Rattle.std.specs.Prelude.{ℕ, Bool, false, ◌==◌, ◌-◌, if◌then◌else◌, List, [], ◌∷◌, ◌++◌, Option, Some, None, slice_get}
use Rattle.std.specs.List.{list_any}
use Rattle.log_entries.specs.declared.event.Event.{Event}
use Rattle.log_entries.specs.declared.event.Event.TheVariants.{Deliver}
use Rattle.protocol_data.specs.declared.message.Envelope.{Envelope}
use Rattle.protocol_data.specs.declared.message.Endpoint.{Endpoint}
use Rattle.protocol_data.specs.declared.message.Endpoint.TheVariants.{TheWorker, TheNode}

abbrev pub same_endpoint : Endpoint → Endpoint → Bool
same_endpoint (TheWorker v) (TheWorker w) = v == w
same_endpoint (TheNode m) (TheNode n) = m == n
same_endpoint p q = false

abbrev pub with_endpoint : List Endpoint → Endpoint → List Endpoint
with_endpoint ps p = if list_any (same_endpoint p) ps then ps else ps ++ p ∷ []

-- those, and who sends one of the messages
abbrev pub with_senders : List Endpoint → List Envelope → List Endpoint
with_senders ps [] = ps
with_senders ps (l ∷ ls) = with_senders (with_endpoint ps l.sender) ls

-- the message of that number, counted from 1
abbrev pub envelope_at : List Envelope → ℕ → Option Envelope
envelope_at envelopes m = if m == 0 then None else slice_get envelopes (m - 1)

abbrev pub receiver : Option Envelope → List Endpoint
receiver (Some l) = l.receiver ∷ []
receiver None = []

-- who receives a message in the event
abbrev pub receivers : List Envelope → Event → List Endpoint
receivers envelopes (Deliver m) = receiver (envelope_at envelopes m)
receivers envelopes _ = []
