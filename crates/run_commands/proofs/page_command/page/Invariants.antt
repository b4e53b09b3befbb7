use Rattle.script_check.specs.Trees.{script_of}
use Rattle.run_commands.proofs.page_command.page.Given as goal

abbrev pub ghosts-page_script : goal.ghosts-page_script
ghosts-page_script g a = record { script = script_of a.script.now }
