-- What `state` plays and writes.
use Rattle.std.proofs.Common.{◌≡◌, ◌⊎◌, ℕ, Bool, List, Option, None, Some, inr, subst, sym, take}
use Rattle.std.specs.Prelude.{IfSome}
use Rattle.std.specs.Io.KnownBytes.{Appends}
use Rattle.meaning.specs.Syntax.{Script}
use Rattle.event_files.specs.declared.event_file.EventFile.{EventFile}
use Rattle.event_files.specs.declared.line.Line.{Line}
use Rattle.event_log.specs.Entries.{Entry}
use Rattle.fault_runs.specs.of_protocol_board.Cores.{IsSoundLog, RunState, Size}
use Rattle.fault_runs.specs.of_protocol_board.Replays.{Play}
use Rattle.fault_runs.specs.Replays.{EndsSo}
use Rattle.state_text.specs.Text.{event_count}
use Rattle.script_commands.specs.Scripts.{IsScript}
use Rattle.run_commands.specs.SimReports.{AreEvents, IfBoth, IsReplayed}
use Rattle.run_commands.specs.States.{IsBehind, IsStateBegun, IsStateNow, IsStateOf, IsStateTold, first_events}

-- the state behind an event of the log of a replay
pub state_so : (script : Script) (size : Size) (at : ℕ) (says : EventFile) (play : Play) (log : List Entry) (text : List ℕ) (status : ℕ) →
    IsReplayed script size says play → log ≡ play.run.log → IsBehind script size at log text status → IsStateOf script size at says text status
state_so script size at says play log text status so logged h =
    let here : IsBehind script size at play.run.log text status = subst (λ l. IsBehind script size at l text status) logged h in
    record {
      play = play;
      replayed = so;
      again = here.again;
      is_stopped = here.is_stopped;
      played = here.played;
      meant = here.meant;
      told = here.told.0;
      status_is = here.told.1;
    }

-- the log's first events were played once more
pub behind_so : (script named : Script) (size : Size) (at : ℕ) (log : List Entry) (again : Play) (stopped : Bool) (ls : List Line) (run : RunState)
    (all : ℕ) (text : List ℕ) (status : ℕ) → script ≡ named → ls ≡ first_events at log → EndsSo named size ls again stopped → run ≡ again.run →
    IsSoundLog named run → all ≡ event_count log → IsStateNow run all text status → IsBehind script size at log text status
behind_so script named size at log again stopped ls run all text status own cut played shown meant count told = record {
  again = again;
  is_stopped = stopped;
  played = subst (λ s. EndsSo s size (first_events at log) again stopped) (sym own) (subst (λ l. EndsSo named size l again stopped) cut played);
  meant = subst (λ s. IsSoundLog s again.run) (sym own) (subst (λ r. IsSoundLog named r) shown meant);
  told = subst (λ r. IsStateNow r (event_count log) text status) shown (subst (λ n. IsStateNow run n text status) count told);
}

-- what was written is a beginning of the state of what was read, where that is known
pub state_begun_so : (size : Size) (at : ℕ) (known events : Option (List ℕ)) (text : List ℕ) (script : Script) (says : EventFile)
    (numbers state bytes : List ℕ) (status : ℕ) (before after : Option (List ℕ)) → IfSome known (λ b. text ≡ b) → IsScript text script →
    IfSome events (λ e. AreEvents e says numbers) → IsStateOf script size at says state status → bytes ≡ state →
    (k : ℕ) × Appends before after (take k bytes) → IfBoth known events (λ t e. (after ≡ before) ⊎ IsStateBegun size at t e before after)
state_begun_so size at None events text script says numbers state bytes status before after same is ls told written a = tt
state_begun_so size at (Some b) None text script says numbers state bytes status before after same is ls told written a = tt
state_begun_so size at (Some b) (Some e) text script says numbers state bytes status before after same is ls told written (k, a) = inr (record {
  script = script;
  says = says;
  numbers = numbers;
  state = state;
  status = status;
  is_script = subst (λ t. IsScript t script) same is;
  are_events = ls;
  told = told;
  count = k;
  written = subst (λ l. Appends before after (take k l)) written a;
})

-- and where all was written, it is the state of what was read
pub state_told_so : (size : Size) (at : ℕ) (known events : Option (List ℕ)) (text : List ℕ) (script : Script) (says : EventFile)
    (numbers state bytes : List ℕ) (status : ℕ) (before after : Option (List ℕ)) → IfSome known (λ b. text ≡ b) → IsScript text script →
    IfSome events (λ e. AreEvents e says numbers) → IsStateOf script size at says state status → bytes ≡ state → Appends before after bytes →
    IfBoth known events (λ t e. IsStateTold size at t e status before after)
state_told_so size at None events text script says numbers state bytes status before after same is ls told written a = tt
state_told_so size at (Some b) None text script says numbers state bytes status before after same is ls told written a = tt
state_told_so size at (Some b) (Some e) text script says numbers state bytes status before after same is ls told written a = record {
  script = script;
  says = says;
  numbers = numbers;
  state = state;
  is_script = subst (λ t. IsScript t script) same is;
  are_events = ls;
  told = told;
  written = subst (λ l. Appends before after l) written a;
}
