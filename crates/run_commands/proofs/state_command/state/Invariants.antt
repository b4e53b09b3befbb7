use Rattle.script_check.specs.Trees.{script_of}
use Rattle.run_commands.proofs.state_command.state.Given as goal

abbrev pub ghosts-state_script : goal.ghosts-state_script
ghosts-state_script g a = record { script = script_of a.script.now }
