-- The events that are a run's history with one fault more.
use Rattle.std.specs.Prelude.{List, [], ◌∷◌, ◌++◌, Option, Some, None, take, drop}
use Rattle.event_log.specs.Entries.{Event}
use Rattle.faulted_history.specs.declared.fault_list.FaultList.{FaultList}

-- a notice, if there is one
abbrev pub notice_in : Option Event → List Event
notice_in (Some e) = e ∷ []
notice_in None = []

-- the fault, and behind it what main's worker is told
abbrev pub fault_events : FaultList → List Event
fault_events l = l.fault ∷ notice_in l.notice

-- the history with the fault in its place
abbrev pub event_list : List Event → FaultList → List Event
event_list events l = take l.place events ++ (fault_events l ++ drop l.place events)
