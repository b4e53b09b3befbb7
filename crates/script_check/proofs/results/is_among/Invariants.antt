use Rattle.std.proofs.Common.{◌≡◌, drop, map}
use Rattle.script_syntax.specs.Views.{name_of}
use Rattle.script_check.specs.Inference.{is_among}
use Rattle.script_check.proofs.results.is_among.Given as goal

abbrev pub invariant-loop-other : goal.invariant-loop-other
invariant-loop-other l = is_among (map name_of (drop l.other-index l.names)) (name_of l.name) ≡ is_among (map name_of l.names) (name_of l.name)
