use Rattle.std.proofs.Common.{subst}
use Rattle.protocol_core.specs.Own.{HaveAnswersIn}
use Rattle.protocol_core.proofs.handed.handed_for.Goals as goal

pub is_done_on-requires-clause-own : goal.is_done_on-requires-clause-own
is_done_on-requires-clause-own g c is_own = subst (HaveAnswersIn c.args.whole.now) c.in-Some.is (c.requires.own is_own)
