use Rattle.script_check.specs.Trees.{script_of}
use Rattle.worked_runs.proofs.checks.steps.a_run_by_claim_commit_and_step.Given as goal

abbrev pub ghosts-report_in : goal.ghosts-report_in
ghosts-report_in g a = record { script = script_of a.script.now }
