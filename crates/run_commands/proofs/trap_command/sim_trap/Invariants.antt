use Rattle.script_check.specs.Trees.{script_of}
use Rattle.run_commands.proofs.trap_command.sim_trap.Given as goal

abbrev pub ghosts-sim_script : goal.ghosts-sim_script
ghosts-sim_script a = record { script = script_of a.placed.now.script }
