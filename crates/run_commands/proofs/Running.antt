-- What `run` refuses and writes.
use Rattle.std.proofs.Common.{◌≡◌, ℕ, List, [], Option, None, Some, inl, inr, subst, take}
use Rattle.std.specs.Prelude.{IfSome}
use Rattle.std.specs.Io.KnownBytes.{Appends}
use Rattle.meaning.specs.Syntax.{Script}
use Rattle.fault_runs.specs.of_protocol_board.Cores.{Size}
use Rattle.raysim_streams.specs.declared.CommandRefusal.{CommandRefusal}
use Rattle.raysim_streams.specs.declared.CommandRefusal.TheVariants.{At, NoMemory, Stopped, BadLine, WrongJob, Failed}
use Rattle.script_commands.specs.Scripts.{Counts, Explains, IsScript}
use Rattle.run_commands.specs.declared.form.Form.{Form}
use Rattle.run_commands.specs.RunReports.{ExplainsRun, IsReportOf, IsRunBegun, IsRunReported, IsRunStop}
use Rattle.run_commands.proofs.AsSerial.{as_serial}

-- it refuses a script for the other commands' causes
pub explains_as_others : (size : Size) (known : Option (List ℕ)) (reads writes : Counts) (r : CommandRefusal) → Explains known reads writes r →
    ExplainsRun size known reads writes r
explains_as_others size known a b (At code span) h = h
explains_as_others size known a b NoMemory h = h
explains_as_others size known a b (Stopped code) h = absurd h
explains_as_others size known a b (BadLine line) h = absurd h
explains_as_others size known a b (WrongJob line) h = absurd h
explains_as_others size known a b (Failed failure) h = h

stopped_so : (size : Size) (known : Option (List ℕ)) (reads writes : Counts) (script : Script) (code : ℕ) → IfSome known (λ t. IsScript t script) →
    IsRunStop script size (Stopped code) → ExplainsRun size known reads writes (Stopped code)
stopped_so size None a b script code is h = tt
stopped_so size (Some t) a b script code is h = (script, is, h)

-- and a run that stops
pub explains_run_stop : (size : Size) (known : Option (List ℕ)) (reads writes : Counts) (script : Script) (r : CommandRefusal) →
    IfSome known (λ t. IsScript t script) → IsRunStop script size r → ExplainsRun size known reads writes r
explains_run_stop size known a b script (Stopped code) is h = stopped_so size known a b script code is h
explains_run_stop size known a b script NoMemory is h = tt
explains_run_stop size known a b script (At code span) is h = absurd h
explains_run_stop size known a b script (BadLine line) is h = absurd h
explains_run_stop size known a b script (WrongJob line) is h = absurd h
explains_run_stop size known a b script (Failed failure) is h = absurd h

-- nothing was written
pub run_unbegun : (size : Size) (form : Form) (known : Option (List ℕ)) (before after : Option (List ℕ)) → after ≡ before →
    IfSome known (λ t. IsRunBegun size form t before after)
run_unbegun size form None before after same = tt
run_unbegun size form (Some t) before after same = inl same

-- what was written is a beginning of the report of what was read, where that is known
pub run_begun_so : (size : Size) (form : Form) (known : Option (List ℕ)) (script : Script) (report bytes : List ℕ) (status : ℕ)
    (before after : Option (List ℕ)) → IfSome known (λ t. IsScript t script) → IsReportOf script size form report status → bytes ≡ report →
    (k : ℕ) × Appends before after (take k bytes) → IfSome known (λ t. IsRunBegun size form t before after)
run_begun_so size form None script report bytes status before after is r same a = tt
run_begun_so size form (Some t) script report bytes status before after is r same (k, a) =
    inr (script, report, status, k, is, r, subst (λ l. Appends before after (take k l)) same a)

-- and where all was written, it is the report of what was read
pub run_reported_so : (size : Size) (form : Form) (known : Option (List ℕ)) (script : Script) (report bytes : List ℕ) (status : ℕ)
    (before after : Option (List ℕ)) → IfSome known (λ t. IsScript t script) → IsReportOf script size form report status → bytes ≡ report →
    Appends before after bytes → IfSome known (λ t. IsRunReported size form t status before after)
run_reported_so size form None script report bytes status before after is r same a = tt
run_reported_so size form (Some t) script report bytes status before after is r same a = record {
  script = script;
  report = report;
  is_script = is;
  reported = r;
  as_serial = as_serial t form script r.0.run r.0.sent [] report status is r.1.meant r.2 r.3;
  written = subst (λ l. Appends before after l) same a;
}
