use Rattle.std.proofs.Common.{◌++◌, ◌-◌, ◌+◌, [], ◌∷◌, ap, ◌∙◌}
use Rattle.contexts.specs.of_protocol.Sets.{repeated}
use Rattle.contexts.specs.of_protocol.Tables.{new_worker}
use Rattle.cluster_steps.proofs.Blanks.{one_more}
use Rattle.cluster_steps.proofs.put_back.add_workers.Goals as goal

pub loop-turn-preserved : goal.loop-turn-preserved
loop-turn-preserved c =
    let w = new_worker c.args.node in
    let rest = repeated (c.args.count - (c.loop-turn.turn + 1)) w in
    ap (λ ys. ys ++ rest) (c.in_ok-push.ensures.ok ∙ ap (λ y. c.loop-turn.workers ++ y ∷ []) (c.in_ok-new.ensures ∙ c.new_worker.ensures))
    ∙ one_more c.loop-turn.workers w c.args.count c.loop-turn.turn c.loop-turn-test.true ∙ c.loop-turn.invariant
