use Rattle.script_check.specs.Trees.{script_of}
use Rattle.run_commands.proofs.so_far_command.sim_so_far.Given as goal

abbrev pub ghosts-sim_script : goal.ghosts-sim_script
ghosts-sim_script a = record { script = script_of a.script.now }
