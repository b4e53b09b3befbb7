use Rattle.seats.proofs.Seen.{job_agrees, still_own}
use Rattle.seats.proofs.seen_job.SeenFrames.run.Goals as goal

pub run-requires-2-clause-own : goal.run-requires-2-clause-own
run-requires-2-clause-own g c =
    job_agrees c.self.inside.seen c.given.inside.seen c.longer.result c.self.inside.frames c.given.inside.job c.longer.ensures.this c.longer.ensures.that
    c.self.invariant (c.given.invariant.0 c.if-not-is_own.false)

pub invariant_of-self : goal.invariant_of-self
invariant_of-self g c =
    still_own c.self.inside.seen c.given.inside.seen c.longer.result c.self.inside.frames c.run-2.new.self c.given.inside.job c.longer.ensures.this
    c.longer.ensures.that c.self.invariant (c.given.invariant.0 c.if-not-is_own.false) c.run-2.ensures.kept

pub invariant_of-self-2 : goal.invariant_of-self-2
invariant_of-self-2 g c =
    still_own c.self.inside.seen c.given.inside.seen c.longer.result c.self.inside.frames c.run-2.new.self c.given.inside.job c.longer.ensures.this
    c.longer.ensures.that c.self.invariant (c.given.invariant.0 c.if-not-is_own.false) c.run-2.ensures.kept
