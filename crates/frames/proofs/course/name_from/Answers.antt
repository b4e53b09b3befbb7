use Rattle.std.proofs.Common.{◌∙◌, ap, arith}
use Rattle.meaning.specs.Values.{Named}
use Rattle.meaning.specs.Runs.{next_id}
use Rattle.frames.proofs.Meeting.{named_next, named_all, past_next, past_all}
use Rattle.frames.proofs.course.name_from.Goals as goal

pub loop-preserved : goal.loop-preserved
loop-preserved c = record {
  within = omega (arith, c.loop-test.true);
  named = named_next c.loop.references.items c.push.new.self.items _ c.loop.behind c.in_ok-behind.behind c.args.count c.loop.counter _ c.loop-test.true
      c.in_ok-push.ensures.items (ap Named (c.in_ok-new.ensures.ok)) c.in_ok-behind.ensures.next c.loop.invariant.named;
  behind = c.in_ok-behind.ensures.next ∙ ap next_id c.loop.invariant.behind ∙ past_next c.args.first c.loop.counter;
}

pub returns-clause-named : goal.returns-clause-named
returns-clause-named c =
    named_all c.loop.references.items c.loop.behind c.args.count c.loop.counter _ (omega (arith, c.loop-test.false)) c.loop.invariant.named

pub returns-clause-behind : goal.returns-clause-behind
returns-clause-behind c =
    c.loop.invariant.behind ∙ past_all c.args.first c.args.count c.loop.counter (omega (arith, c.loop-test.false)) c.loop.invariant.within
