use Rattle.std.proofs.Common.{◌≡◌, ◌++◌, drop, map, string_bytes}
use Rattle.std.specs.List.{flat_map}
use Rattle.engine_text.specs.Expressions.{variable_name}
use Rattle.engine_text.specs.Statements.{other_name}
use Rattle.engine_text.proofs.statements.write_names.Given as goal

-- the text so far, and what is left
abbrev pub invariant-loop-other : goal.invariant-loop-other
invariant-loop-other l =
    string_bytes l.text ++ flat_map other_name (map string_bytes (drop l.other-index l.others))
    ≡ string_bytes l.fn.text ++ (variable_name l.first ++ flat_map other_name (map string_bytes l.others))
