-- What is told of the trap of a run.
use Rattle.std.proofs.Common.{◌≡◌, ℕ, List, sym, subst}
use Rattle.meaning.specs.Syntax.{Script}
use Rattle.script_tokens.specs.declared.token.Span.{Span}
use Rattle.event_files.specs.declared.event_file.EventFile.{EventFile}
use Rattle.event_log.specs.Entries.{Entry}
use Rattle.fault_runs.specs.of_protocol_board.Cores.{IsSoundLog, Size}
use Rattle.fault_runs.specs.of_protocol_board.Drives.{Course}
use Rattle.fault_runs.specs.of_protocol_board.Replays.{Play}
use Rattle.trap_text.specs.Text.{IsTrapTold}
use Rattle.trap_text.specs.declared.text.TrapAsked.{TrapAsked}
use Rattle.run_commands.specs.RunReports.{first_run}
use Rattle.run_commands.specs.SoFar.{IsDriven, IsReplayedSoFar}
use Rattle.run_commands.specs.TrapReports.{IsReplayTrap, IsRunTrap}

-- of a run that was driven from its beginning
pub run_trap_so : (script named : Script) (size : Size) (text : List ℕ) (places : List Span) (asked : TrapAsked) (before after : Course)
    (log : List Entry) (told : List ℕ) → script ≡ named → before ≡ first_run size → IsDriven named before after → IsSoundLog named after.run →
    log ≡ after.run.log → IsTrapTold script text places log asked told → IsRunTrap script size text places asked told
run_trap_so script named size text places asked before after log told own first driven meant same tells = record {
  course = after;
  driven = subst (λ s. IsDriven s (first_run size) after) (sym own) (subst (λ b. IsDriven named b after) first driven);
  meant = subst (λ s. IsSoundLog s after.run) (sym own) meant;
  tells = subst (λ l. IsTrapTold script text places l asked told) same tells;
}

-- of a replay of what the file says
pub replay_trap_so : (script : Script) (size : Size) (text : List ℕ) (places : List Span) (says : EventFile) (asked : TrapAsked) (play : Play)
    (log : List Entry) (told : List ℕ) → IsReplayedSoFar script size says play → log ≡ play.run.log → IsTrapTold script text places log asked told →
    IsReplayTrap script size text places says asked told
replay_trap_so script size text places says asked play log told so logged tells = record {
  play = play;
  played = so.played;
  meant = so.meant;
  tells = subst (λ l. IsTrapTold script text places l asked told) logged tells;
}
