-- A run up to where it stops.
use Rattle.std.proofs.Common.{◌≡◌, ◌∙◌, ℕ, List, [], sym, subst}
use Rattle.meaning.specs.Syntax.{Script}
use Rattle.event_files.specs.declared.event_file.EventFile.{EventFile}
use Rattle.fault_runs.specs.of_protocol_board.Cores.{IsSoundLog, Size}
use Rattle.fault_runs.specs.of_protocol_board.Drives.{Course}
use Rattle.fault_runs.specs.of_protocol_board.Replays.{Play}
use Rattle.raysim_streams.specs.declared.CommandRefusal.{CommandRefusal}
use Rattle.raysim_streams.specs.declared.CommandRefusal.TheVariants.{At, NoMemory, Stopped, BadLine, WrongJob, Failed}
use Rattle.script_commands.specs.Scripts.{ExplainsText, IsAllowed, IsRefusalOf, IsScript}
use Rattle.script_commands.proofs.Refused.{explains_text}
use Rattle.run_commands.specs.declared.form.Form.{Form}
use Rattle.run_commands.proofs.AsSerial.{as_serial}
use Rattle.run_commands.proofs.Lasting.{driven_goes_on, played_goes_on}
use Rattle.run_commands.specs.RunReports.{first_run}
use Rattle.run_commands.specs.SimReports.{AreEvents, ExplainsList, first_play, lines_in_file}
use Rattle.run_commands.specs.SoFar.{ExplainsTexts, IsDriven, IsPlayed, IsReplaySoFar, IsReplayToldOf, IsReplayedSoFar, IsRunSoFar, IsRunToldOf, IsToldOf, IsToldOfReplay}

-- what is written of a run that was driven from its beginning
pub run_told_so : (script named : Script) (size : Size) (form : Form) (before after : Course) (nowhere report : List ℕ) (status : ℕ) →
    script ≡ named → before ≡ first_run size → IsDriven named before after → IsSoundLog named after.run → nowhere ≡ [] →
    IsToldOf form after.run after.sent nowhere report status → IsRunSoFar script size form report status
run_told_so script named size form before after nowhere report status own first driven meant none told =
    let here = subst (λ l. IsToldOf form after.run after.sent l report status) none told in
    let so_driven : IsDriven script (first_run size) after =
    subst (λ s. IsDriven s (first_run size) after) (sym own) (subst (λ b. IsDriven named b after) first driven) in
    record {
      course = after;
      driven = so_driven;
      goes_on = driven_goes_on script size after so_driven;
      meant = subst (λ s. IsSoundLog s after.run) (sym own) meant;
      told = here.0;
      status_is = here.1;
    }

-- a replay of what the file says, which began so
pub played_so : (script named : Script) (size : Size) (says : EventFile) (begun first after : Play) → script ≡ named → begun ≡ first →
    first ≡ first_play size → IsPlayed named says begun after → IsSoundLog named after.run → IsReplayedSoFar script size says after
played_so script named size says begun first after own same begins played meant =
    let so_played : IsPlayed script says (first_play size) after =
    subst (λ s. IsPlayed s says (first_play size) after) (sym own) (subst (λ p. IsPlayed named says p after) (same ∙ begins) played) in
    record {
      played = so_played;
      goes_on = played_goes_on script says size after so_played;
      meant = subst (λ s. IsSoundLog s after.run) (sym own) meant;
    }

-- and what is written of it
pub replay_told_so : (script : Script) (size : Size) (form : Form) (says : EventFile) (numbers : List ℕ) (play : Play) (report : List ℕ) (status : ℕ) →
    IsReplayedSoFar script size says play → IsToldOfReplay form numbers play report status → IsReplaySoFar script size form says numbers report status
replay_told_so script size form says numbers play report status so told = record {
  play = play;
  played = so.played;
  goes_on = so.goes_on;
  meant = so.meant;
  told = told.0;
  status_is = told.1;
}

-- ---- as what `serial` writes

pub run_told_of : (script : Script) (size : Size) (form : Form) (text report : List ℕ) (status : ℕ) → IsScript text script →
    IsRunSoFar script size form report status → IsRunToldOf size form text report status
run_told_of script size form text report status is so = record {
  script = script;
  is_script = is;
  so_far = so;
  as_serial = as_serial text form script so.course.run so.course.sent [] report status is so.meant so.told so.status_is;
}

pub replay_told_of : (script : Script) (size : Size) (form : Form) (says : EventFile) (numbers text events report : List ℕ) (status : ℕ) →
    IsScript text script → AreEvents events says numbers → IsReplaySoFar script size form says numbers report status → IsReplayToldOf size form text events report status
replay_told_of script size form says numbers text events report status is are so = record {
  script = script;
  says = says;
  numbers = numbers;
  is_script = is;
  are_events = are;
  so_far = so;
  as_serial = as_serial text form script so.play.run so.play.sent (lines_in_file numbers so.play.lines) report status is so.meant so.told so.status_is;
}

-- ---- why nothing is

-- there is no memory
pub text_without_memory : (text : List ℕ) (r : CommandRefusal) → r ≡ NoMemory → ExplainsText text r
text_without_memory text r same = subst (λ x. ExplainsText text x) (sym same) tt

pub texts_without_memory : (text events : List ℕ) (r : CommandRefusal) → r ≡ NoMemory → ExplainsTexts text events r
texts_without_memory text events r same = subst (λ x. ExplainsTexts text events x) (sym same) tt

texts_so : (text events : List ℕ) (r : CommandRefusal) → ExplainsText text r → ExplainsTexts text events r
texts_so text events (At code span) h = h
texts_so text events NoMemory h = tt
texts_so text events (Stopped code) h = absurd h
texts_so text events (BadLine n) h = absurd h
texts_so text events (WrongJob n) h = absurd h
texts_so text events (Failed failure) h = absurd h

-- the text is no script
pub texts_without_script : (text events : List ℕ) (r : CommandRefusal) → IsRefusalOf text r → ExplainsTexts text events r
texts_without_script text events r h = texts_so text events r (explains_text text r h)

-- it is one, and the other is no event file
pub texts_without_events : (text events : List ℕ) (r : CommandRefusal) → IsAllowed text → ExplainsList events r → ExplainsTexts text events r
texts_without_events text events (BadLine n) is h = (is, h)
texts_without_events text events NoMemory is h = tt
texts_without_events text events (At code span) is h = absurd h
texts_without_events text events (Stopped code) is h = absurd h
texts_without_events text events (WrongJob n) is h = absurd h
texts_without_events text events (Failed failure) is h = absurd h
