-- In which event each message was delivered first.
use Rattle.std.specs.Prelude.{ℕ, ◌-◌, ◌==◌, Bool, false, if◌then◌else◌, nat_lt, List, [], ◌∷◌, Option, Some, None, map, slice_get, slice_set}
use Rattle.event_log.specs.Events.{refused_next}
use Rattle.log_entries.specs.declared.event.Event.{Event}
use Rattle.log_entries.specs.declared.event.Event.TheVariants.{Deliver}
use Rattle.event_log.specs.Entries.{Entry, In}
use Rattle.log_words.specs.Told.{Told, nothing_told}
use Rattle.message_text.specs.Sent.{sent_behind}
use Rattle.protocol_data.specs.declared.message.Envelope.{Envelope}
use Rattle.timeline.specs.Told.{told_with}

abbrev pub is_still_none : Option ℕ → Bool
is_still_none (Some n) = n == 0
is_still_none None = false

-- the message at that place is delivered in the event, which is noted where it was sent before and wasn't delivered yet
abbrev pub delivered : List ℕ → List ℕ → ℕ → ℕ → List ℕ
delivered sent arrivals clock k =
    if nat_lt k (sent_behind sent (clock - 1)) then (if is_still_none (slice_get arrivals k) then slice_set arrivals k clock else arrivals) else arrivals

abbrev pub after_event : List ℕ → List ℕ → ℕ → Event → List ℕ
after_event sent arrivals clock (Deliver m) = if m == 0 then arrivals else delivered sent arrivals clock (m - 1)
after_event sent arrivals clock _ = arrivals

abbrev pub arrivals_after : List ℕ → List ℕ → ℕ → Entry → Bool → List ℕ
arrivals_after sent arrivals clock (In e seat) refused = if refused then arrivals else after_event sent arrivals clock e
arrivals_after sent arrivals clock _ refused = arrivals

abbrev pub arrivals_from : List ℕ → List ℕ → Told → List Entry → List ℕ
arrivals_from sent arrivals told [] = arrivals
arrivals_from sent arrivals told (x ∷ rest) =
    arrivals_from sent (arrivals_after sent arrivals (told_with told x rest).events x (refused_next rest)) (told_with told x rest) rest

-- for each message the number of the event; 0 where there is none
abbrev pub arrivals_in : List Envelope → List ℕ → List Entry → List ℕ
arrivals_in envelopes sent log = arrivals_from sent (map (λ l. 0) envelopes) nothing_told log
