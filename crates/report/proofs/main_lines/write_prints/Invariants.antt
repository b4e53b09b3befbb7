use Rattle.std.proofs.Common.{◌≡◌, ◌++◌, string_bytes, take, map}
use Rattle.values.specs.Values.{value_of}
use Rattle.report.specs.MainLines.{print_lines}
use Rattle.report.proofs.main_lines.write_prints.Given as goal

abbrev pub invariant-loop-value : goal.invariant-loop-value
invariant-loop-value l = string_bytes l.text ≡ string_bytes l.fn.text ++ print_lines (map value_of (take l.value-index l.prints))
