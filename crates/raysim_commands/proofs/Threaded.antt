-- What a run on threads writes, beside what `serial` writes of its script.
use Rattle.std.proofs.Common.{ℕ, List, [], Option, None, Some, inr}
use Rattle.std.specs.Prelude.{IfSome}
use Rattle.std.specs.Io.KnownBytes.{Appends}
use Rattle.meaning.specs.Syntax.{Script}
use Rattle.event_files.specs.declared.plan.PlanLine.{PlanLine}
use Rattle.run_commands.specs.of_protocol_board.Cores.{Size}
use Rattle.run_commands.specs.declared.form.Form.{Form}
use Rattle.run_commands.specs.SimReports.{IfBoth}
use Rattle.run_commands.proofs.AsSerial.{as_serial}
use Rattle.script_commands.specs.Scripts.{IsScript}
use Rattle.raysim_commands.specs.ThreadReports.{AreBegun, AreWritten, IsBegun, IsPlan, IsRunOn}

-- the history and the report of a run on threads of what was read were written, where that is known
pub threads_written_so : (size : Size) (threads : ℕ) (form : Form) (known plan : Option (List ℕ)) (script : Script) (lines : List PlanLine)
    (report history : List ℕ) (status : ℕ) (recorded recorded_now held held_now : Option (List ℕ)) →
    IfSome known (λ t. IsScript t script) → IfSome plan (λ p. IsPlan p lines) → IsRunOn script lines size threads form report history status →
    Appends recorded recorded_now history → Appends held held_now report →
    IfBoth known plan (λ t p. AreWritten size threads form t p status recorded recorded_now held held_now)
threads_written_so size threads form None plan script lines report history status recorded recorded_now held held_now is has run a b = tt
threads_written_so size threads form (Some t) None script lines report history status recorded recorded_now held held_now is has run a b = tt
threads_written_so size threads form (Some t) (Some p) script lines report history status recorded recorded_now held held_now is has run a b = record {
  script = script;
  lines = lines;
  report = report;
  history = history;
  is_script = is;
  is_plan = has;
  run = run;
  as_serial = as_serial t form script run.run [] [] report status is run.outputs.meant run.outputs.reported run.outputs.ends;
  history_out = a;
  report_out = b;
}

-- a beginning of them was
pub threads_begun_so : (size : Size) (threads : ℕ) (form : Form) (known plan : Option (List ℕ)) (script : Script) (lines : List PlanLine)
    (report history : List ℕ) (status : ℕ) (recorded recorded_now held held_now : Option (List ℕ)) →
    IfSome known (λ t. IsScript t script) → IfSome plan (λ p. IsPlan p lines) → IsRunOn script lines size threads form report history status →
    AreBegun history report recorded recorded_now held held_now →
    IfBoth known plan (λ t p. IsBegun size threads form t p recorded recorded_now held held_now)
threads_begun_so size threads form None plan script lines report history status recorded recorded_now held held_now is has run out = tt
threads_begun_so size threads form (Some t) None script lines report history status recorded recorded_now held held_now is has run out = tt
threads_begun_so size threads form (Some t) (Some p) script lines report history status recorded recorded_now held held_now is has run out = inr (record {
  script = script;
  lines = lines;
  report = report;
  history = history;
  status = status;
  is_script = is;
  is_plan = has;
  run = run;
  out = out;
})
