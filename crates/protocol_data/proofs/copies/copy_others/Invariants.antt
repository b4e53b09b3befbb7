use Rattle.std.proofs.Common.{◌≡◌, ◌++◌, drop}
use Rattle.protocol_data.specs.Shelves.{without}
use Rattle.protocol_data.proofs.copies.copy_others.Given as goal

-- the copies so far with the others among those that are left
abbrev pub invariant-loop-copy : goal.invariant-loop-copy
invariant-loop-copy l = l.others ++ without l.object l.number (drop l.copy-index l.copy-items) ≡ without l.object l.number l.copy-items
