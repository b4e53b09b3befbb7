use Rattle.kept_frames.proofs.Places.{only_or}
use Rattle.kept_frames.proofs.keeping.Frames.put.Goals as goal

pub returns : goal.returns
returns g c = only_or c.args.waiting c.args.self.now c.make_room.new.self c.fill.new.self c.make_room.ensures c.fill.ensures
