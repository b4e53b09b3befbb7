use Rattle.script_check.specs.Trees.{script_of}
use Rattle.run_commands.proofs.run_command.run.Given as goal

abbrev pub ghosts-run_script : goal.ghosts-run_script
ghosts-run_script g a = record { script = script_of a.script.now }
