use Rattle.frame_code.specs.Views.{spawn_of}
use Rattle.frames.specs.Machines.{done_at}
use Rattle.frames.proofs.registers.State.spawn.Goals as goal

pub returns-in-Ok : goal.returns-in-Ok
returns-in-Ok c code pc here =
    c.bears.ensures (done_at code c.args.limit pc c.args.self.now (spawn_of c.args.spawn.now)) (c.in-Ok.ensures code pc here)
