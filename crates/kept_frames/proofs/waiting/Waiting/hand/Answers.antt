use Rattle.std.proofs.Common.{subst}
use Rattle.kept_frames.specs.Known.{IsNext}
use Rattle.kept_frames.specs.Views.{data_of}
use Rattle.kept_frames.proofs.Fitting.{fits_next}
use Rattle.kept_frames.proofs.waiting.Waiting.hand.Goals as goal

pub with_frame-job-requires : goal.with_frame-job-requires
with_frame-job-requires g c =
    let next = subst (λ k. IsNext (data_of k) c.args.job) c.deref.ensures (c.is_next.ensures c.if-not-is_next.false) in
    fits_next g.S.ScriptName.script (data_of c.self.inside.known.value) c.self.inside.frame.value c.args.job c.self.invariant next c.attest.ensures
