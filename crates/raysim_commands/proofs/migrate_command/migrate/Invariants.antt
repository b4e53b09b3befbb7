use Rattle.script_check.specs.Trees.{script_of}
use Rattle.raysim_commands.proofs.migrate_command.migrate.Given as goal

abbrev pub ghosts-migrate_script : goal.ghosts-migrate_script
ghosts-migrate_script g a = record { script = script_of a.script.now }
