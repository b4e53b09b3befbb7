use Rattle.std.proofs.Common.{◌≡◌, ◌++◌, drop, map}
use Rattle.std.specs.Prelude.{string_bytes}
use Rattle.frame_laws.specs.Compile as compile
use Rattle.frame_code.specs.Views.{names_of}
use Rattle.frame_code.proofs.statements.push_names.Given as goal

-- the names so far with those that are left
abbrev pub invariant-loop-name : goal.invariant-loop-name
invariant-loop-name l =
    names_of l.names.items ++ compile.names_of (map string_bytes (drop l.name-index l.others))
    ≡ names_of l.fn.names.items ++ compile.names_of (map string_bytes l.others)
