-- What `faults` tries and writes.
use Rattle.std.proofs.Common.{◌≡◌, ◌∙◌, ◌⊎◌, ℕ, List, Option, None, Some, ap, inr, subst, sym, take, length}
use Rattle.std.specs.Prelude.{IfSome}
use Rattle.std.specs.List.{flat_map}
use Rattle.std.specs.Io.KnownBytes.{Appends}
use Rattle.meaning.specs.Syntax.{Script}
use Rattle.event_log.specs.Entries.{Entry}
use Rattle.event_files.specs.declared.event_file.EventFile.{EventFile}
use Rattle.fault_runs.specs.of_protocol_board.Cores.{Size}
use Rattle.fault_runs.specs.of_protocol_board.Replays.{Play}
use Rattle.fault_lists.specs.declared.choice.FaultChoice.{FaultChoice}
use Rattle.fault_lists.specs.declared.tried.Tried.{Tried}
use Rattle.fault_lists.specs.Lists.{event_in, fault_lists}
use Rattle.fault_lists.specs.Ends.{attempts_in}
use Rattle.fault_lists.specs.Tables.{status_of_all, table_text}
use Rattle.fault_runs.specs.Replays.{AreTried}
use Rattle.run_commands.specs.declared.faults_command.TriedFaults.{TriedFaults}
use Rattle.script_commands.specs.Scripts.{IsScript}
use Rattle.run_commands.specs.SimReports.{AreEvents, IfBoth, IsReplayed}
use Rattle.run_commands.specs.Faults.{AreFaultsBegun, AreFaultsIn, AreFaultsOf, AreFaultsTold}

-- a table of the same numbers and lists is the same
pub table_so : (table : List ℕ) (all all' before before' : ℕ) (tried tried' : List Tried) → table ≡ table_text all before tried → all ≡ all' → before ≡ before' →
    tried ≡ tried' → table ≡ table_text all' before' tried'
table_so table all all' before before' tried tried' same a b t =
    same ∙ ap (λ n. table_text n before tried) a ∙ ap (λ n. table_text all' n tried) b ∙ ap (λ ts. table_text all' before' ts) t

-- the lists of a log's events were tried and told
pub tried_so : (script named : Script) (size : Size) (choice : FaultChoice) (most : ℕ) (log : List Entry) (f : TriedFaults) (table : List ℕ) →
    script ≡ named → f.events ≡ flat_map event_in log → AreTried named size f.events (take most (fault_lists choice size.nodes log)) f.tried →
    table ≡ table_text (length (fault_lists choice size.nodes log)) (attempts_in log) f.tried → f.status ≡ status_of_all f.tried →
    AreFaultsIn script size choice most log f table
tried_so script named size choice most log f table own events tried told ends = record {
  events = events;
  tried = subst (λ s. AreTried s size f.events (take most (fault_lists choice size.nodes log)) f.tried) (sym own) tried;
  table_is = told;
  status_is = ends;
}

-- those of the log of a replay
pub faults_so : (script : Script) (size : Size) (choice : FaultChoice) (most : ℕ) (says : EventFile) (play : Play) (log : List Entry) (f : TriedFaults)
    (table : List ℕ) → IsReplayed script size says play → log ≡ play.run.log → AreFaultsIn script size choice most log f table →
    AreFaultsOf script size choice most says f table
faults_so script size choice most says play log f table so logged h =
    let here : AreFaultsIn script size choice most play.run.log f table = subst (λ l. AreFaultsIn script size choice most l f table) logged h in
    record {
      play = play;
      replayed = so;
      events = here.events;
      tried = here.tried;
      table_is = here.table_is;
      status_is = here.status_is;
    }

-- what was written is a beginning of the table of what was read, where that is known
pub faults_begun_so : (size : Size) (choice : FaultChoice) (most : ℕ) (known events : Option (List ℕ)) (text : List ℕ) (script : Script) (says : EventFile)
    (numbers : List ℕ) (f : TriedFaults) (table bytes : List ℕ) (before after : Option (List ℕ)) → IfSome known (λ b. text ≡ b) → IsScript text script →
    IfSome events (λ e. AreEvents e says numbers) → AreFaultsOf script size choice most says f table → bytes ≡ table →
    (k : ℕ) × Appends before after (take k bytes) → IfBoth known events (λ t e. (after ≡ before) ⊎ AreFaultsBegun size choice most t e before after)
faults_begun_so size choice most None events text script says numbers f table bytes before after same is ls told written a = tt
faults_begun_so size choice most (Some b) None text script says numbers f table bytes before after same is ls told written a = tt
faults_begun_so size choice most (Some b) (Some e) text script says numbers f table bytes before after same is ls told written (k, a) = inr (record {
  script = script;
  says = says;
  numbers = numbers;
  faults = f;
  table = table;
  is_script = subst (λ t. IsScript t script) same is;
  are_events = ls;
  told = told;
  count = k;
  written = subst (λ l. Appends before after (take k l)) written a;
})

-- and where all was written, it is the table of what was read
pub faults_told_so : (size : Size) (choice : FaultChoice) (most : ℕ) (known events : Option (List ℕ)) (text : List ℕ) (script : Script) (says : EventFile)
    (numbers : List ℕ) (f : TriedFaults) (table bytes : List ℕ) (before after : Option (List ℕ)) → IfSome known (λ b. text ≡ b) → IsScript text script →
    IfSome events (λ e. AreEvents e says numbers) → AreFaultsOf script size choice most says f table → bytes ≡ table → Appends before after bytes →
    IfBoth known events (λ t e. AreFaultsTold size choice most t e f before after)
faults_told_so size choice most None events text script says numbers f table bytes before after same is ls told written a = tt
faults_told_so size choice most (Some b) None text script says numbers f table bytes before after same is ls told written a = tt
faults_told_so size choice most (Some b) (Some e) text script says numbers f table bytes before after same is ls told written a = record {
  script = script;
  says = says;
  numbers = numbers;
  table = table;
  is_script = subst (λ t. IsScript t script) same is;
  are_events = ls;
  told = told;
  written = subst (λ l. Appends before after l) written a;
}
