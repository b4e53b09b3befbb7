-- The messages that each event sent.
use Rattle.std.specs.Prelude.{ℕ, zero, suc, ◌-◌, Bool, true, false, if◌then◌else◌, List, [], ◌∷◌, Option, Some, None, drop, take, slice_get}
use Rattle.event_log.specs.Entries.{Entry, In}
use Rattle.log_words.specs.declared.contents.Contents.{Contents}
use Rattle.protocol_data.specs.declared.message.Envelope.{Envelope}
use Rattle.message_text.specs.Envelopes.{envelopes_text}

abbrev pub or_none : Option ℕ → ℕ
or_none (Some n) = n
or_none None = 0

-- how many messages had been sent behind that event, counted from 1; none before the first
abbrev pub sent_behind : List ℕ → ℕ → ℕ
sent_behind sent zero = 0
sent_behind sent (suc n) = or_none (slice_get sent n)

-- those with the numbers behind `from`, up to `until`
abbrev pub envelopes_between : List Envelope → ℕ → ℕ → List Envelope
envelopes_between envelopes from until = take (until - from) (drop from envelopes)

-- a line for each message that the event sent
abbrev pub sent_text : Contents → List Envelope → List ℕ → ℕ → List ℕ
sent_text how envelopes sent zero = []
sent_text how envelopes sent (suc n) =
    envelopes_text how (sent_behind sent n) (envelopes_between envelopes (sent_behind sent n) (sent_behind sent (suc n)))

-- no entry of the event is still to come
abbrev pub is_over : List Entry → Bool
is_over [] = true
is_over (In e seat ∷ rest) = true
is_over (x ∷ rest) = false

abbrev pub sent_note : Contents → List Envelope → List ℕ → ℕ → Bool → List ℕ
sent_note how envelopes sent event over = if over then sent_text how envelopes sent event else []
