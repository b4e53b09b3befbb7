use Rattle.script_check.specs.Trees.{script_of}
use Rattle.worked_runs.proofs.faults.trial.try_row.Given as goal

abbrev pub ghosts-try_script : goal.ghosts-try_script
ghosts-try_script g a = record { script = script_of a.script.now }
