use Rattle.std.proofs.Common.{◌∙◌}
use Rattle.kept_frames.proofs.Places.{kept_then}
use Rattle.kept_frames.proofs.keeping.Frames.run.Goals as goal

pub returns-clause-kept : goal.returns-clause-kept
returns-clause-kept g c =
    kept_then c.args.job c.in_ok-done.done.job c.args.self.now c.hand-job.new.self c.keep.new.self (c.in_ok-done.ensures.own ∙ c.hand-job.ensures.job)
    c.hand-job.ensures.kept c.keep.ensures.kept
