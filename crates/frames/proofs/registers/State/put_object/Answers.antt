use Rattle.std.proofs.Common.{◌+◌, ap}
use Rattle.meaning.specs.Values as meant
use Rattle.frame_laws.specs.Machine as laws
use Rattle.frames.proofs.registers.State.put_object.Goals as goal

pub returns-in-Ok : goal.returns-in-Ok
returns-in-Ok c code limit pc here =
    c.bears.ensures _ (ap (λ o. laws.on_value o (λ v. laws.Bore (meant.Put v) (c.args.self.now.base + c.args.to))) c.in-Ok.ensures.value)
