use Rattle.std.proofs.Common.{◌≡◌, ◌++◌, drop}
use Rattle.protocol_data.proofs.copies.copy_rows.Given as goal

abbrev pub invariant-loop-copy : goal.invariant-loop-copy
invariant-loop-copy l = l.again ++ drop l.copy-index l.copy-items ≡ l.copy-items
