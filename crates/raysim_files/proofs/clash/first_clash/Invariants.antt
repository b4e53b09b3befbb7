use Rattle.raysim_files.specs.Clashes.{NoneClashes}
use Rattle.raysim_files.proofs.clash.first_clash.Given as goal

-- none of the names so far clashes with one before it
abbrev pub invariant-loop-later : goal.invariant-loop-later
invariant-loop-later l = NoneClashes l.places l.kept l.later
