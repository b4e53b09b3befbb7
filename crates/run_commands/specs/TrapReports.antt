-- What is told of where in the script the trap of a run comes about.
use Rattle.std.specs.Prelude.{ℕ, List, None, Option, Some}
use Rattle.meaning.specs.Syntax.{Script}
use Rattle.script_tokens.specs.declared.token.Span.{Span}
use Rattle.event_files.specs.declared.event_file.EventFile.{EventFile}
use Rattle.fault_runs.specs.of_protocol_board.Cores.{IsSoundLog, Size}
use Rattle.fault_runs.specs.of_protocol_board.Drives.{Course}
use Rattle.fault_runs.specs.of_protocol_board.Replays.{Play}
use Rattle.script_commands.specs.Scripts.{IsPlaced}
use Rattle.trap_text.specs.Text.{IsTrapTold}
use Rattle.trap_text.specs.declared.text.TrapAsked.{TrapAsked}
use Rattle.trap_text.specs.declared.text.TrapAsked.TheVariants.{Of, OfMain}
use Rattle.run_commands.specs.declared.form.Form.{Form}
use Rattle.run_commands.specs.declared.form.Form.TheVariants as forms
use Rattle.run_commands.specs.RunReports.{first_run}
use Rattle.run_commands.specs.SimReports.{AreEvents, first_play}
use Rattle.run_commands.specs.SoFar.{IsDriven, IsPlayed}

-- of whose trap it is told below a form, if it is
abbrev pub trap_asked : Form → Option TrapAsked
trap_asked (forms.WhyMain how) = Some OfMain
trap_asked (forms.Why how o) = Some (Of o)
trap_asked forms.Text = None
trap_asked forms.Json = None
trap_asked forms.TextWithBooks = None
trap_asked (forms.Log how) = None
trap_asked (forms.LogWithMessages how) = None
trap_asked (forms.Timeline how) = None
trap_asked (forms.Lineage how) = None
trap_asked forms.TextWithSummary = None
trap_asked forms.State = None
trap_asked (forms.WhyWorker how w) = None
trap_asked (forms.WhyNode how n) = None
trap_asked forms.Limit = None

-- what is told of the trap of a run of the script, up to its end or to where it stops, and what its log means
pub record IsRunTrap (script : Script) (size : Size) (text : List ℕ) (places : List Span) (asked : TrapAsked) (told : List ℕ) : Type 0 where
  pub course : Course
  pub driven : IsDriven script (first_run size) course
  pub meant : IsSoundLog script course.run
  pub tells : IsTrapTold script text places course.run.log asked told

-- the same of a replay of what the file says
pub record IsReplayTrap (script : Script) (size : Size) (text : List ℕ) (places : List Span) (says : EventFile) (asked : TrapAsked) (told : List ℕ) :
    Type 0 where
  pub play : Play
  pub played : IsPlayed script says (first_play size) play
  pub meant : IsSoundLog script play.run
  pub tells : IsTrapTold script text places play.run.log asked told

-- of what the text is a script of
abbrev pub IsRunTrapOf : Size → List ℕ → TrapAsked → List ℕ → Type 0
IsRunTrapOf size text asked told =
    (script : Script) × (places : List Span) × IsPlaced text script places × IsRunTrap script size text places asked told

-- and the events an event file
abbrev pub IsReplayTrapOf : Size → List ℕ → List ℕ → TrapAsked → List ℕ → Type 0
IsReplayTrapOf size text events asked told =
    (script : Script) × (places : List Span) × (says : EventFile) × (numbers : List ℕ) × IsPlaced text script places × AreEvents events says numbers
    × IsReplayTrap script size text places says asked told
