use Rattle.std.proofs.Common.{sym, subst}
use Rattle.protocol_data.specs.Idle.{AreNoted}
use Rattle.protocol_data.proofs.Idle.{noted_added, noted_more}
use Rattle.protocol_data.proofs.idle_workers.IdleWorkers.add.Goals as goal

pub invariant_of-self : goal.invariant_of-self
invariant_of-self c = noted_more c.self.inside.marks c.mark.new.marks c.self.inside.rows c.mark.ensures.kept c.self.invariant

pub invariant_of-self-in_err-push : goal.invariant_of-self-in_err-push
invariant_of-self-in_err-push c =
    subst (AreNoted c.mark.new.marks) (sym c.in_err-push.ensures.err)
    (noted_more c.self.inside.marks c.mark.new.marks c.self.inside.rows c.mark.ensures.kept c.self.invariant)

pub invariant_of-self-2 : goal.invariant_of-self-2
invariant_of-self-2 c =
    subst (AreNoted c.mark.new.marks) (sym c.in_ok-push.ensures.ok)
    (noted_added c.mark.new.marks c.self.inside.rows c.args.worker (noted_more c.self.inside.marks c.mark.new.marks c.self.inside.rows c.mark.ensures.kept c.self.invariant) c.in_ok-mark.ensures.marked)
