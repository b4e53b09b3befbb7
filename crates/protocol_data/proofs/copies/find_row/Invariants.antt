use Rattle.std.proofs.Common.{◌≡◌, drop}
use Rattle.std.specs.List.{find}
use Rattle.protocol_data.specs.Shelves.{is_sought}
use Rattle.protocol_data.proofs.copies.find_row.Given as goal

abbrev pub invariant-loop-copy : goal.invariant-loop-copy
invariant-loop-copy l = find (is_sought l.object l.number) (drop l.copy-index l.copy-items) ≡ find (is_sought l.object l.number) l.copy-items
