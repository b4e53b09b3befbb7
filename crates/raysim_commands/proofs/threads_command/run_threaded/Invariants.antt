use Rattle.script_check.specs.Trees.{script_of}
use Rattle.raysim_commands.proofs.threads_command.run_threaded.Given as goal

abbrev pub ghosts-run_script : goal.ghosts-run_script
ghosts-run_script g a = record { script = script_of a.script.now }
