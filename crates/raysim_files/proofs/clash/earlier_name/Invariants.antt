use Rattle.raysim_files.specs.Clashes.{NoneBefore}
use Rattle.raysim_files.proofs.clash.earlier_name.Given as goal

-- none of the names so far is of the later one's file
abbrev pub invariant-loop-earlier : goal.invariant-loop-earlier
invariant-loop-earlier l = NoneBefore l.places l.earlier l.later
