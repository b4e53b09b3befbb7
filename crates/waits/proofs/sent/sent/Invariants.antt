use Rattle.std.proofs.Common.{◌≡◌, drop}
use Rattle.waits.specs.Topics.{sent_from}
use Rattle.waits.proofs.sent.sent.Given as goal

abbrev pub invariant-loop-place : goal.invariant-loop-place
invariant-loop-place l =
    sent_from l.topic l.whole.network 0 l.whole.delivered ≡ sent_from l.topic l.whole.network l.place (drop l.place l.whole.delivered)
