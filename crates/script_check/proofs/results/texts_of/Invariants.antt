use Rattle.std.proofs.Common.{◌≡◌, take, map, string_bytes}
use Rattle.script_syntax.specs.Views.{name_of}
use Rattle.script_check.proofs.results.texts_of.Given as goal

abbrev pub invariant-loop-name : goal.invariant-loop-name
invariant-loop-name l = map string_bytes l.texts.items ≡ map name_of (take l.name-index l.names)
