use Rattle.std.proofs.Common.{◌≡◌, take}
use Rattle.protocol_data.proofs.message.copy_contents.Given as goal

abbrev pub invariant-loop-content : goal.invariant-loop-content
invariant-loop-content l = l.copies ≡ take l.content-index l.content-items
