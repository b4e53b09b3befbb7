use Rattle.script_check.specs.Trees.{script_of}
use Rattle.run_commands.proofs.trap_command.run_trap.Given as goal

abbrev pub ghosts-run_script : goal.ghosts-run_script
ghosts-run_script a = record { script = script_of a.placed.now.script }
