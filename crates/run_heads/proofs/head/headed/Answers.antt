use Rattle.std.proofs.Common.{◌∙◌}
use Rattle.run_heads.proofs.Together.{put_together}
use Rattle.run_heads.proofs.head.headed.Goals as goal

pub returns : goal.returns
returns c =
    put_together c.args.nodes c.args.slots c.args.threads c.args.script.now c.args.history.now c.in_ok-all.all.items c.as_str-3.result.now
    c.as_str.result.now c.as_str-2.result.now c.in_ok-all.ensures (c.as_str-3.ensures.value ∙ c.in_ok-head.ensures) (c.as_str.ensures.value ∙ c.in_ok-cluster.ensures)
    (c.as_str-2.ensures.value ∙ c.in_ok-sum.ensures)
