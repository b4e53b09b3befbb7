use Rattle.script_check.specs.Trees.{script_of}
use Rattle.worked_runs.proofs.faults.orders.try_orders.Given as goal

abbrev pub ghosts-count_alike : goal.ghosts-count_alike
ghosts-count_alike g a = record { script = script_of a.script.now }
