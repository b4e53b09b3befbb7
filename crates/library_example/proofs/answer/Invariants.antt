use Rattle.script_check.specs.Trees.{script_of}
use Rattle.library_example.proofs.answer.Given as goal

abbrev pub ghosts-run : goal.ghosts-run
ghosts-run a = record { script = script_of a.script.now }
