use Rattle.kept_frames.proofs.Places.{taken_so}
use Rattle.kept_frames.proofs.keeping.Frames.hand.Goals as goal

pub returns-clause-kept : goal.returns-clause-kept
returns-clause-kept g c = taken_so c.args.job c.args.self.now c.self.inside.waiting.items c.place_of-place.result c.take.new.self c.self.view_is c.take.ensures.after
