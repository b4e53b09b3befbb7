-- What `sim` reads, refuses and writes, and with it what all replays of an event file do.
use Rattle.std.proofs.Common.{◌≡◌, ◌∙◌, ◌⊎◌, ◌<◌, ◌*◌, ℕ, List, Option, None, Some, Result, Err, inl, inr, ap, refl, subst, sym, take, length}
use Rattle.std.specs.Prelude.{IfSome}
use Rattle.std.specs.Io.KnownBytes.{Appends}
use Rattle.meaning.specs.Syntax.{Script}
use Rattle.event_files.specs.declared.error.EventError.TheVariants as errors
use Rattle.event_files.specs.declared.event_file.EventFile.{EventFile}
use Rattle.event_files.specs.Recorded.{IsFileRefusal}
use Rattle.fault_runs.specs.of_protocol_board.Cores.{IsSoundLog, Size}
use Rattle.fault_runs.specs.of_protocol_board.declared.stopped.ReplayStop.{ReplayStop}
use Rattle.fault_runs.specs.of_protocol_board.declared.stopped.ReplayStop.TheVariants as stops
use Rattle.fault_runs.specs.of_protocol_board.Replays.{FileStops, Play, PlaysFile}
use Rattle.raysim_streams.specs.Settled.{IsOfWriting}
use Rattle.raysim_streams.specs.declared.Failure.{Failure}
use Rattle.raysim_streams.specs.declared.Failure.TheVariants.{Read, Write, Closed}
use Rattle.raysim_streams.specs.declared.CommandRefusal.{CommandRefusal}
use Rattle.raysim_streams.specs.declared.CommandRefusal.TheVariants.{At, NoMemory, Stopped, BadLine, WrongJob, Failed}
use Rattle.script_commands.specs.Scripts.{Counts, Explains, FailedIn, IsAllowed, IsScript}
use Rattle.script_commands.proofs.Reading.{of_known, of_read}
use Rattle.run_commands.specs.declared.form.Form.{Form}
use Rattle.run_commands.specs.SimReports.{AreEvents, ExplainsEvents, ExplainsList, ExplainsSim, IfBoth, IsReplayed, IsSimBegun, IsSimReportOf, IsSimReported}
use Rattle.run_commands.specs.SimReports.{IsStopOf, first_play, lines_in_file, number_of, stop_refusal}
use Rattle.run_commands.proofs.AsSerial.{as_serial}
use Rattle.run_commands.proofs.Lasting.{replay_goes_on}

-- ---- a replay, which began so

pub replayed_so : (script named : Script) (size : Size) (says : EventFile) (begun first after : Play) → script ≡ named → begun ≡ first →
    first ≡ first_play size → PlaysFile named says begun after → IsSoundLog named after.run → IsReplayed script size says after
replayed_so script named size says begun first after own same begins plays meant =
    let played : PlaysFile script says (first_play size) after =
    subst (λ s. PlaysFile s says (first_play size) after) (sym own) (subst (λ p. PlaysFile named says p after) (same ∙ begins) plays) in
    record {
      plays = played;
      goes_on = replay_goes_on script says size after played;
      meant = subst (λ s. IsSoundLog s after.run) (sym own) meant;
    }

stops_so : (script : Script) (size : Size) (says : EventFile) (numbers : List ℕ) (after : Play) (stopped : ReplayStop) (n : ℕ) →
    FileStops script says (first_play size) after stopped → n ≡ number_of numbers after.begun → IsStopOf script size says numbers (stop_refusal stopped n)
stops_so script size says numbers after stops.NoMemory n h line = tt
stops_so script size says numbers after stops.TooLong n h line = (refl, (after, h))
stops_so script size says numbers after stops.WrongJob n h line = (after, h, line)

-- where it stops it is refused for that
pub stopped_so : (script named : Script) (size : Size) (says : EventFile) (numbers : List ℕ) (begun first after : Play) (stopped : ReplayStop) (n : ℕ)
    (r : CommandRefusal) → script ≡ named → begun ≡ first → first ≡ first_play size → FileStops named says begun after stopped →
    n ≡ number_of numbers after.begun → r ≡ stop_refusal stopped n → IsStopOf script size says numbers r
stopped_so script named size says numbers begun first after stopped n r own same begins stop line told =
    let here = subst (λ s. FileStops s says (first_play size) after stopped) (sym own) (subst (λ p. FileStops named says p after stopped) (same ∙ begins) stop) in
    subst (λ x. IsStopOf script size says numbers x) (sym told) (stops_so script size says numbers after stopped n here line)

-- there is no memory
pub without_memory : (script : Script) (size : Size) (says : EventFile) (numbers : List ℕ) (r : CommandRefusal) → r ≡ NoMemory →
    IsStopOf script size says numbers r
without_memory script size says numbers r same = subst (λ x. IsStopOf script size says numbers x) (sym same) tt

-- ---- what is read

-- what was read is no event file
pub explains_list : (known : Option (List ℕ)) (reads : Counts) (text shown : List ℕ) (r : CommandRefusal) →
    IfSome known (λ b. text ≡ take 18446744073709551615 b) → shown ≡ text → length shown * 1 < 9223372036854775808 → ExplainsList shown r →
    ExplainsEvents known reads r
explains_list known reads text shown (BadLine n) same value bound h = of_read (λ b. IsFileRefusal b (errors.BadLine n)) known text shown same value bound h
explains_list known reads text shown NoMemory same value bound h = tt
explains_list known reads text shown (At code span) same value bound h = absurd h
explains_list known reads text shown (Stopped code) same value bound h = absurd h
explains_list known reads text shown (WrongJob n) same value bound h = absurd h
explains_list known reads text shown (Failed failure) same value bound h = absurd h

-- they aren't read
pub explains_unread : {X : Type 0} (known : Option (List ℕ)) (reads : Counts) (r : CommandRefusal) → (r ≡ NoMemory) ⊎ (r ≡ Failed Read) →
    (◌≡◌ {A = Result X CommandRefusal} (Err r) (Err (Failed Read)) → FailedIn reads) → ExplainsEvents known reads r
explains_unread known reads r (inl same) h = subst (λ x. ExplainsEvents known reads x) (sym same) tt
explains_unread known reads r (inr same) h = subst (λ x. ExplainsEvents known reads x) (sym same) (h (ap Err same))

-- ---- why nothing is written

-- a script is refused for the other commands' causes
pub explains_script : (size : Size) (known events : Option (List ℕ)) (a b w : Counts) (r : CommandRefusal) → Explains known a w r →
    ExplainsSim size known events a b w r
explains_script size known events a b w (At code span) h = h
explains_script size known events a b w NoMemory h = tt
explains_script size known events a b w (Stopped code) h = absurd h
explains_script size known events a b w (BadLine line) h = absurd h
explains_script size known events a b w (WrongJob line) h = absurd h
explains_script size known events a b w (Failed Read) h = inl h
explains_script size known events a b w (Failed Write) h = h
explains_script size known events a b w (Failed Closed) h = h

bad_line : (size : Size) (known events : Option (List ℕ)) (a b w : Counts) (n : ℕ) → IfSome known IsAllowed → ExplainsEvents events b (BadLine n) →
    ExplainsSim size known events a b w (BadLine n)
bad_line size None events a b w n is h = tt
bad_line size (Some t) None a b w n is h = tt
bad_line size (Some t) (Some e) a b w n is h = (is, h)

-- the events aren't read
pub explains_no_events : (size : Size) (known events : Option (List ℕ)) (text : List ℕ) (script : Script) (a b w : Counts) (r : CommandRefusal) →
    IfSome known (λ t. text ≡ t) → IsScript text script → ExplainsEvents events b r → ExplainsSim size known events a b w r
explains_no_events size known events text script a b w (BadLine n) same is h =
    bad_line size known events a b w n (of_known IsAllowed known text same (script, is)) h
explains_no_events size known events text script a b w NoMemory same is h = tt
explains_no_events size known events text script a b w (Failed Read) same is h = inr (h, of_known IsAllowed known text same (script, is))
explains_no_events size known events text script a b w (Failed Write) same is h = absurd h
explains_no_events size known events text script a b w (Failed Closed) same is h = absurd h
explains_no_events size known events text script a b w (At code span) same is h = absurd h
explains_no_events size known events text script a b w (Stopped code) same is h = absurd h
explains_no_events size known events text script a b w (WrongJob n) same is h = absurd h

too_long : (size : Size) (known events : Option (List ℕ)) (text : List ℕ) (script : Script) (says : EventFile) (numbers : List ℕ) (a b w : Counts)
    (code : ℕ) → IfSome known (λ t. text ≡ t) → IsScript text script → IfSome events (λ e. AreEvents e says numbers) →
    IsStopOf script size says numbers (Stopped code) → ExplainsSim size known events a b w (Stopped code)
too_long size None events text script says numbers a b w code same is ls h = tt
too_long size (Some t) None text script says numbers a b w code same is ls h = tt
too_long size (Some t) (Some e) text script says numbers a b w code same is ls h =
    (h.0, script, says, numbers, subst (λ x. IsScript x script) same is, ls, h.1)

wrong_job : (size : Size) (known events : Option (List ℕ)) (text : List ℕ) (script : Script) (says : EventFile) (numbers : List ℕ) (a b w : Counts)
    (n : ℕ) → IfSome known (λ t. text ≡ t) → IsScript text script → IfSome events (λ e. AreEvents e says numbers) →
    IsStopOf script size says numbers (WrongJob n) → ExplainsSim size known events a b w (WrongJob n)
wrong_job size None events text script says numbers a b w n same is ls h = tt
wrong_job size (Some t) None text script says numbers a b w n same is ls h = tt
wrong_job size (Some t) (Some e) text script says numbers a b w n same is ls h = (script, says, numbers, subst (λ x. IsScript x script) same is, ls, h)

-- the replay stops
pub explains_stop : (size : Size) (known events : Option (List ℕ)) (text : List ℕ) (script : Script) (says : EventFile) (numbers : List ℕ)
    (a b w : Counts) (r : CommandRefusal) → IfSome known (λ t. text ≡ t) → IsScript text script → IfSome events (λ e. AreEvents e says numbers) →
    IsStopOf script size says numbers r → ExplainsSim size known events a b w r
explains_stop size known events text script says numbers a b w (Stopped code) same is ls h =
    too_long size known events text script says numbers a b w code same is ls h
explains_stop size known events text script says numbers a b w (WrongJob n) same is ls h =
    wrong_job size known events text script says numbers a b w n same is ls h
explains_stop size known events text script says numbers a b w NoMemory same is ls h = tt
explains_stop size known events text script says numbers a b w (At code span) same is ls h = absurd h
explains_stop size known events text script says numbers a b w (BadLine n) same is ls h = absurd h
explains_stop size known events text script says numbers a b w (Failed failure) same is ls h = absurd h

-- a write failed
pub explains_no_write : (size : Size) (known events : Option (List ℕ)) (a b w : Counts) (f : Failure) → IsOfWriting f → FailedIn w →
    ExplainsSim size known events a b w (Failed f)
explains_no_write size known events a b w Read kind h = absurd kind
explains_no_write size known events a b w Write kind h = h
explains_no_write size known events a b w Closed kind h = h

-- ---- what is written

-- nothing
pub unbegun : (Q : List ℕ → List ℕ → Type 0) (known events before after : Option (List ℕ)) → after ≡ before →
    IfBoth known events (λ t e. (after ≡ before) ⊎ Q t e)
unbegun Q None events before after same = tt
unbegun Q (Some t) None before after same = tt
unbegun Q (Some t) (Some e) before after same = inl same

-- a beginning of the report of what was read, where that is known
pub sim_begun_so : (size : Size) (form : Form) (known events : Option (List ℕ)) (text : List ℕ) (script : Script) (says : EventFile) (numbers : List ℕ)
    (report bytes : List ℕ) (status : ℕ) (before after : Option (List ℕ)) → IfSome known (λ b. text ≡ b) → IsScript text script →
    IfSome events (λ e. AreEvents e says numbers) → IsSimReportOf script size form says numbers report status → bytes ≡ report →
    (k : ℕ) × Appends before after (take k bytes) → IfBoth known events (λ t e. (after ≡ before) ⊎ IsSimBegun size form t e before after)
sim_begun_so size form None events text script says numbers report bytes status before after same is ls r written a = tt
sim_begun_so size form (Some b) None text script says numbers report bytes status before after same is ls r written a = tt
sim_begun_so size form (Some b) (Some e) text script says numbers report bytes status before after same is ls r written (k, a) = inr (record {
  script = script;
  says = says;
  numbers = numbers;
  report = report;
  status = status;
  is_script = subst (λ t. IsScript t script) same is;
  are_events = ls;
  reported = r;
  count = k;
  written = subst (λ l. Appends before after (take k l)) written a;
})

-- all of it
pub sim_reported_so : (size : Size) (form : Form) (known events : Option (List ℕ)) (text : List ℕ) (script : Script) (says : EventFile) (numbers : List ℕ)
    (report bytes : List ℕ) (status : ℕ) (before after : Option (List ℕ)) → IfSome known (λ b. text ≡ b) → IsScript text script →
    IfSome events (λ e. AreEvents e says numbers) → IsSimReportOf script size form says numbers report status → bytes ≡ report →
    Appends before after bytes → IfBoth known events (λ t e. IsSimReported size form t e status before after)
sim_reported_so size form None events text script says numbers report bytes status before after same is ls r written a = tt
sim_reported_so size form (Some b) None text script says numbers report bytes status before after same is ls r written a = tt
sim_reported_so size form (Some b) (Some e) text script says numbers report bytes status before after same is ls r written a = record {
  script = script;
  says = says;
  numbers = numbers;
  report = report;
  is_script = subst (λ t. IsScript t script) same is;
  are_events = ls;
  reported = r;
  as_serial = as_serial text form script r.0.run r.0.sent (lines_in_file numbers r.0.lines) report status is r.1.meant r.2 r.3;
  written = subst (λ l. Appends before after l) written a;
}
