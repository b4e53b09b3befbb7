-- A run of a script that is driven from its beginning.
use Rattle.std.proofs.Common.{◌≡◌, ◌∙◌, ℕ, Bool, true, false, if◌then◌else◌, List, [], refl, sym, ap, subst}
use Rattle.meaning.specs.Syntax.{Script}
use Rattle.fault_runs.specs.of_protocol_board.Cores.{IsSoundLog, RunState, Size, first_state}
use Rattle.log_entries.specs.Refusals.{code_of}
use Rattle.log_entries.specs.declared.refusal.Refusal.{Refusal}
use Rattle.fault_runs.specs.of_protocol_board.Replays.{is_no_memory}
use Rattle.fault_runs.specs.of_protocol_board.Drives.{Course, EndsSo, StopsSo}
use Rattle.raysim_streams.specs.declared.CommandRefusal.{CommandRefusal}
use Rattle.raysim_streams.specs.declared.CommandRefusal.TheVariants.{NoMemory, Stopped}
use Rattle.run_commands.specs.declared.form.Form.{Form}
use Rattle.run_commands.specs.RunReports.{IsReportOf, IsRunStop, first_run, run_refusal}
use Rattle.run_commands.specs.SoFar.{IsToldOf}
use Rattle.run_commands.proofs.Lasting.{run_goes_on}

-- it begins, and no event came
pub begins_so : (run : RunState) (sent : List ℕ) (size : Size) → run ≡ first_state size.nodes size.slots → sent ≡ [] →
    ◌≡◌ {A = Course} (record { run = run; sent = sent }) (first_run size)
begins_so run sent size e f =
    ap {B = Course} (λ r. record { run = r; sent = sent }) e ∙ ap {B = Course} (λ s. record { run = first_state size.nodes size.slots; sent = s }) f

-- it ends, and its report is told
pub run_ends : (script named : Script) (size : Size) (form : Form) (before after : Course) (nowhere report : List ℕ) (status : ℕ) →
    script ≡ named → before ≡ first_run size → EndsSo named before after → IsSoundLog named after.run → nowhere ≡ [] →
    IsToldOf form after.run after.sent nowhere report status → IsReportOf script size form report status
run_ends script named size form before after nowhere report status own first ends meant none told =
    let driven = subst (λ s. EndsSo s (first_run size) after) (sym own) (subst (λ b. EndsSo named b after) first ends) in
    let sound = subst (λ s. IsSoundLog s after.run) (sym own) meant in
    let here = subst (λ l. IsToldOf form after.run after.sent l report status) none told in
    (after, record { ends = driven; goes_on = run_goes_on script size after driven; meant = sound }, here.0, here.1)

stops_by : (script : Script) (size : Size) (after : Course) (why : Refusal) (is_lacking : Bool) → is_no_memory why ≡ is_lacking →
    StopsSo script (first_run size) after why → IsRunStop script size (if is_lacking then NoMemory else Stopped (code_of why))
stops_by script size after why true lacks stops = tt
stops_by script size after why false lacks stops = (after, why, lacks, stops, refl)

-- it stops before its end
pub run_stops : (script named : Script) (size : Size) (before after : Course) (why : Refusal) (refusal : CommandRefusal) →
    script ≡ named → before ≡ first_run size → StopsSo named before after why → refusal ≡ run_refusal why → IsRunStop script size refusal
run_stops script named size before after why refusal own first stops same =
    let driven = subst (λ s. StopsSo s (first_run size) after why) (sym own) (subst (λ b. StopsSo named b after why) first stops) in
    subst (λ r. IsRunStop script size r) (sym same) (stops_by script size after why (is_no_memory why) refl driven)

-- there is no memory
pub run_without_memory : (script : Script) (size : Size) (r : CommandRefusal) → r ≡ NoMemory → IsRunStop script size r
run_without_memory script size r same = subst (λ x. IsRunStop script size x) (sym same) tt
