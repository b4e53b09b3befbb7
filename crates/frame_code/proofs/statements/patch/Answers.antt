use Rattle.frame_code.proofs.Patches.{codes_set}
use Rattle.frame_code.proofs.statements.patch.Goals as goal

pub returns-then-place-len : goal.returns-then-place-len
returns-then-place-len c = codes_set c.args.code.now.items c.args.place c.args.instruction
