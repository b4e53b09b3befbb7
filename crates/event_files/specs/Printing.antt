-- Events, written as a file.
use Rattle.std.specs.Prelude.{ℕ, List, ◌++◌, ◌∷◌, []}
use Rattle.std.specs.List.{flat_map}
use Rattle.log_entries.specs.Texts.{event_text}
use Rattle.log_entries.specs.declared.event.Event.{Event}

-- an event, and a line feed
abbrev pub event_line : Event → List ℕ
event_line e = event_text e ++ 10 ∷ []

abbrev pub events_text : List Event → List ℕ
events_text events = flat_map event_line events
