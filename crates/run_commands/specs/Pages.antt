-- What `page` writes of a run.
use Rattle.std.specs.Prelude.{◌≡◌, ℕ, List, Option, take}
use Rattle.std.specs.Io.KnownBytes.{Appends}
use Rattle.meaning.specs.Syntax.{Script}
use Rattle.event_files.specs.declared.event_file.EventFile.{EventFile}
use Rattle.report_text.specs.of_report_lines.Main.{status_of}
use Rattle.log_words.specs.declared.contents.Contents.{Contents}
use Rattle.page_text.specs.Text.{page_text}
use Rattle.fault_runs.specs.of_protocol_board.Cores.{Size}
use Rattle.fault_runs.specs.of_protocol_board.Replays.{Play}
use Rattle.script_commands.specs.Scripts.{IsScript}
use Rattle.run_commands.specs.SimReports.{AreEvents, IsReplayed}

-- the lines make a run of the script on the cluster, and this is its page, where the script was read from that text
pub record IsPageOf (script : Script) (size : Size) (how : Contents) (says : EventFile) (text page : List ℕ) (status : ℕ) : Type 0 where
  pub play : Play
  pub replayed : IsReplayed script size says play
  pub shown : page ≡ page_text how text size.nodes size.slots play.run.log play.sent play.run.whole
  pub status_is : status ≡ status_of play.run.log

-- the texts are a script and an event file, and the page of that run was written
pub record IsPageWritten (size : Size) (how : Contents) (text events : List ℕ) (status : ℕ) (before after : Option (List ℕ)) : Type 0 where
  pub script : Script
  pub says : EventFile
  pub numbers : List ℕ
  pub page : List ℕ
  pub is_script : IsScript text script
  pub are_events : AreEvents events says numbers
  pub is_page : IsPageOf script size how says text page status
  pub written : Appends before after page

-- a beginning of it was written
pub record IsPageBegun (size : Size) (how : Contents) (text events : List ℕ) (before after : Option (List ℕ)) : Type 0 where
  pub script : Script
  pub says : EventFile
  pub numbers : List ℕ
  pub page : List ℕ
  pub status : ℕ
  pub is_script : IsScript text script
  pub are_events : AreEvents events says numbers
  pub is_page : IsPageOf script size how says text page status
  pub count : ℕ
  pub written : Appends before after (take count page)

-- ---- on the way

-- this is the page of the replay as it is, and the status of main's end
abbrev pub IsPageIn : Size → Contents → Play → List ℕ → List ℕ → ℕ → Type 0
IsPageIn size how play text page status =
    (page ≡ page_text how text size.nodes size.slots play.run.log play.sent play.run.whole) × (status ≡ status_of play.run.log)
