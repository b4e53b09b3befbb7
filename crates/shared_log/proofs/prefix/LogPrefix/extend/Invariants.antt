use Rattle.shared_log.proofs.prefix.LogPrefix.extend.Given as goal

abbrev pub ghosts-grow : goal.ghosts-grow
ghosts-grow g a = record { log = a.log.now }
