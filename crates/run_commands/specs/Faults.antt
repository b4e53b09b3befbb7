-- What `faults` writes and answers: a table of what came of each list, and the lists.
use Rattle.std.specs.Prelude.{◌≡◌, ℕ, List, Option, length, take}
use Rattle.std.specs.List.{flat_map}
use Rattle.std.specs.Io.KnownBytes.{Appends}
use Rattle.meaning.specs.Syntax.{Script}
use Rattle.event_log.specs.Entries.{Entry}
use Rattle.event_files.specs.declared.event_file.EventFile.{EventFile}
use Rattle.fault_runs.specs.of_protocol_board.Cores.{Size}
use Rattle.fault_runs.specs.of_protocol_board.Replays.{Play}
use Rattle.fault_lists.specs.declared.choice.FaultChoice.{FaultChoice}
use Rattle.fault_lists.specs.Lists.{event_in, fault_lists}
use Rattle.fault_lists.specs.Ends.{attempts_in}
use Rattle.fault_lists.specs.Tables.{status_of_all, table_text}
use Rattle.fault_runs.specs.Replays.{AreTried}
use Rattle.run_commands.specs.declared.faults_command.TriedFaults.{TriedFaults}
use Rattle.script_commands.specs.Scripts.{IsScript}
use Rattle.run_commands.specs.SimReports.{AreEvents, IsReplayed}

-- the lines make a run of the script on the cluster, the first so many of the lists that are its history with one fault more were replayed, and the
-- table tells what came of them
pub record AreFaultsOf (script : Script) (size : Size) (choice : FaultChoice) (most : ℕ) (says : EventFile) (f : TriedFaults) (table : List ℕ) : Type 0 where
  pub play : Play
  pub replayed : IsReplayed script size says play
  pub events : f.events ≡ flat_map event_in play.run.log
  pub tried : AreTried script size f.events (take most (fault_lists choice size.nodes play.run.log)) f.tried
  pub table_is : table ≡ table_text (length (fault_lists choice size.nodes play.run.log)) (attempts_in play.run.log) f.tried
  pub status_is : f.status ≡ status_of_all f.tried

-- the texts are a script and an event file, and the table was written
pub record AreFaultsTold (size : Size) (choice : FaultChoice) (most : ℕ) (text file : List ℕ) (f : TriedFaults) (before after : Option (List ℕ)) : Type 0 where
  pub script : Script
  pub says : EventFile
  pub numbers : List ℕ
  pub table : List ℕ
  pub is_script : IsScript text script
  pub are_events : AreEvents file says numbers
  pub told : AreFaultsOf script size choice most says f table
  pub written : Appends before after table

-- a beginning of the table was written
pub record AreFaultsBegun (size : Size) (choice : FaultChoice) (most : ℕ) (text events : List ℕ) (before after : Option (List ℕ)) : Type 0 where
  pub script : Script
  pub says : EventFile
  pub numbers : List ℕ
  pub faults : TriedFaults
  pub table : List ℕ
  pub is_script : IsScript text script
  pub are_events : AreEvents events says numbers
  pub told : AreFaultsOf script size choice most says faults table
  pub count : ℕ
  pub written : Appends before after (take count table)

-- ---- on the way

-- the same of the events of a log
pub record AreFaultsIn (script : Script) (size : Size) (choice : FaultChoice) (most : ℕ) (log : List Entry) (f : TriedFaults) (table : List ℕ) : Type 0 where
  pub events : f.events ≡ flat_map event_in log
  pub tried : AreTried script size f.events (take most (fault_lists choice size.nodes log)) f.tried
  pub table_is : table ≡ table_text (length (fault_lists choice size.nodes log)) (attempts_in log) f.tried
  pub status_is : f.status ≡ status_of_all f.tried
