use Rattle.std.proofs.Common.{◌++◌, ◌-◌, ◌+◌, [], ◌∷◌, ap, ◌∙◌}
use Rattle.protocol.specs.Nodes.{new_node}
use Rattle.protocol.specs.Sets.{repeated}
use Rattle.cluster_steps.proofs.Blanks.{one_more}
use Rattle.protocol_core.proofs.opening.first_nodes.Goals as goal

pub loop-turn-preserved : goal.loop-turn-preserved
loop-turn-preserved c =
    let node = new_node c.args.slots in
    let rest = repeated (c.args.nodes - (c.loop-turn.turn + 1)) node in
    ap (λ ys. ys ++ rest) (c.in_ok-push.ensures.ok ∙ ap (λ y. c.loop-turn.all ++ y ∷ []) (c.in_ok-new.ensures ∙ c.new_node.ensures))
    ∙ one_more c.loop-turn.all node c.args.nodes c.loop-turn.turn c.loop-turn-test.true ∙ c.loop-turn.invariant
