use Rattle.std.specs.Prelude.{◌≡◌, string_bytes}
use Rattle.std.proofs.Common.{◌∙◌, ap}
use Rattle.std.proofs.lemmas.Result.{IfOk-weaker}
use Rattle.event_files.specs.declared.event_file.EventFile.TheVariants as files
use Rattle.event_files.specs.LogHistory.{AreSeated, recorded_in}
use Rattle.event_files.specs.Recorded.{IsEventFile, recorded_file}
use Rattle.event_files.proofs.Logs.{history_file}
use Rattle.event_files.proofs.log_history.history.Goals as goal

pub returns-clause-is_file : goal.returns-clause-is_file
returns-clause-is_file c =
    IfOk-weaker c.print_recorded.result (λ text. string_bytes text ≡ recorded_file c.as_slice.result.now)
    (λ text. AreSeated c.args.log.now → IsEventFile (string_bytes text) (files.Recorded (recorded_in c.args.log.now)))
    (λ text written. history_file c.args.log.now c.in_ok-events.events.items (string_bytes text) (written ∙ ap recorded_file c.as_slice.ensures.value)
    c.in_ok-events.ensures.says c.in_ok-events.ensures.fits) c.print_recorded.ensures
