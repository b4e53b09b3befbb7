use Rattle.kept_frames.specs.Views.{data_of}
use Rattle.kept_frames.proofs.Places.{kept_after}
use Rattle.kept_frames.proofs.keeping.Frames.keep.Goals as goal

pub returns-in-Some-known_after-clause-kept : goal.returns-in-Some-known_after-clause-kept
returns-in-Some-known_after-clause-kept g c =
    kept_after c.args.done.now c.take_frame.new.self (data_of c.in-Some-known_after.known.value) c.new.result c.args.self.now c.put.new.self c.take_frame.ensures.same
    c.in-Some-known_after.ensures c.new.ensures c.put.ensures
