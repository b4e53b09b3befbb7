use Rattle.script_check.specs.Trees.{script_of}
use Rattle.run_commands.proofs.sim_command.sim.Given as goal

abbrev pub ghosts-sim_script : goal.ghosts-sim_script
ghosts-sim_script g a = record { script = script_of a.script.now }
