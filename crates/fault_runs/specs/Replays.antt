-- What comes of lists of events that are replayed, one after the other, each on a run that begins anew.
use Rattle.std.specs.Prelude.{◌≡◌, Bool, true, false, List, [], map}
use Rattle.std.specs.List.{AllByRecursion}
use Rattle.meaning.specs.Syntax.{Script}
use Rattle.event_files.specs.declared.line.Line.{Line}
use Rattle.event_log.specs.Entries.{Event, Entry}
use Rattle.protocol_board.specs.Cores.{Size, IsSoundLog, first_state}
use Rattle.protocol_board.specs.Replays.{Play, PlayStops, Plays}
use Rattle.protocol_board.specs.declared.stopped.ReplayStop.TheVariants as stops
use Rattle.fault_lists.specs.declared.ending.RunEnd.{RunEnd}
use Rattle.fault_lists.specs.declared.ending.RunEnd.TheVariants as ends
use Rattle.fault_lists.specs.of_faulted_history.declared.fault_list.FaultList.{FaultList}
use Rattle.fault_lists.specs.declared.tried.Tried.{Tried}
use Rattle.fault_lists.specs.of_faulted_history.History.{event_list}
use Rattle.fault_lists.specs.Lists.{event_lines}
use Rattle.fault_lists.specs.Ends.{attempts_in, end_of}

-- a replay on such a cluster, as it begins
abbrev pub first_play : Size → Play
first_play size = record { run = first_state size.nodes size.slots; jobs = []; applied = 0; sent = []; begun = 0; lines = [] }

-- the lines, played on a run of the script that begins on the cluster, make this of it: all of them, or up to an event more than it may have
abbrev pub EndsSo : Script → Size → List Line → Play → Bool → Type 0
EndsSo script size lines p false = Plays script lines (first_play size) p
EndsSo script size lines p true = PlayStops script lines (first_play size) p stops.TooLong

-- how main ended
abbrev pub end_or_stop : Bool → List Entry → RunEnd
end_or_stop true log = ends.Stopped
end_or_stop false log = end_of log

-- the list was replayed, and this came of it; and what its log means: so where main ended, it ended as the serial run does
pub record IsTried (script : Script) (size : Size) (events : List Event) (t : Tried) : Type 0 where
  pub play : Play
  pub is_stopped : Bool
  pub played : EndsSo script size (event_lines (event_list events t.list)) play is_stopped
  pub end : t.end ≡ end_or_stop is_stopped play.run.log
  pub attempts : t.attempts ≡ attempts_in play.run.log
  pub meant : IsSoundLog script play.run

abbrev pub list_in : Tried → FaultList
list_in t = t.list

-- these lists were replayed, in this order, and of each this came
pub record AreTried (script : Script) (size : Size) (events : List Event) (lists : List FaultList) (tried : List Tried) : Type 0 where
  pub lists_are : map list_in tried ≡ lists
  pub each : AllByRecursion (IsTried script size events) tried
