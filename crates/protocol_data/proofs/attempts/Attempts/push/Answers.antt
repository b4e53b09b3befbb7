use Rattle.protocol_data.proofs.Noting.{bounded_after, bounded_err, bounded_more}
use Rattle.protocol_data.proofs.attempts.Attempts.push.Goals as goal

pub invariant_of-self : goal.invariant_of-self
invariant_of-self c = bounded_more _ _ _ c.note.ensures.kept c.self.invariant

pub invariant_of-self-in_err-push : goal.invariant_of-self-in_err-push
invariant_of-self-in_err-push c = bounded_err _ _ _ _ c.self.invariant c.in_err-push.ensures.err c.note.ensures.kept

pub invariant_of-self-2 : goal.invariant_of-self-2
invariant_of-self-2 c = bounded_after _ _ _ _ c.args.attempt _ c.self.invariant c.in_ok-push.ensures.ok c.note.ensures.kept c.made_object-object.ensures c.in_ok-note.ensures.noted
