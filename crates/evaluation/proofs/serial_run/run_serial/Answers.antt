use Rattle.std.proofs.Common.{[]}
use Rattle.meaning.specs.Values.{first_outcome}
use Rattle.meaning.specs.Syntax.{Number}
use Rattle.meaning.proofs.ResultLaws.{first_ends}
use Rattle.meaning.specs.Runs.{serial_end, serial_trace}
use Rattle.meaning.specs.Law.{prints_of}
use Rattle.meaning.specs.Meaning.{serial_run}
use Rattle.script_laws.proofs.Safety.{are_safe}
use Rattle.script_check.specs.Trees.{script_of}
use Rattle.evaluation.proofs.Main.{main_is_safe, not_broken, number_is_task, prints_are_tasks}
use Rattle.evaluation.proofs.serial_run.run_serial.Goals as goal

pub unreachable-requires : goal.unreachable-requires
unreachable-requires c =
    let safe = main_is_safe are_safe (script_of c.args.script.now) c.functions.ensures.well_typed in
    let end = serial_end (serial_run (script_of c.args.script.now)) in
    not_broken (first_outcome end) (first_ends end Number [] safe.serial) (c.in-Err-Broken.ensures.broken c.in-Err-Broken.field-0-is)

pub unreachable-requires-in-Err-HasReference : goal.unreachable-requires-in-Err-HasReference
unreachable-requires-in-Err-HasReference c =
    let safe = main_is_safe are_safe (script_of c.args.script.now) c.functions.ensures.well_typed in
    let end = serial_end (serial_run (script_of c.args.script.now)) in
    c.in-Err-HasReference.ensures.plain c.in-Err-HasReference.field-0-is (prints_are_tasks (prints_of (serial_trace (serial_run (script_of c.args.script.now)))) safe.serial_prints) (number_is_task (first_outcome end) (first_ends end Number [] safe.serial))
