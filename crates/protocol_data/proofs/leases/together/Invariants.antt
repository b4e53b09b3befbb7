use Rattle.std.proofs.Common.{◌≡◌, ◌++◌, drop}
use Rattle.protocol_data.specs.Leased.{leases_of}
use Rattle.protocol_data.proofs.leases.together.Given as goal

-- those that were added, and those of the rows that are left
abbrev pub invariant-loop-row : goal.invariant-loop-row
invariant-loop-row l = l.again ++ leases_of (drop l.row-index l.row-items) ≡ leases_of l.row-items
