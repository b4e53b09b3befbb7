use Rattle.std.proofs.Common.{ap, arith, drop, ◌∙◌}
use Rattle.protocol_data.proofs.Queueing.{all_gone, drop_more}
use Rattle.protocol_data.proofs.queue.Queue.remove_first.Goals as goal

pub returns-then-self-count : goal.returns-then-self-count
returns-then-self-count c =
    c.clear.ensures ∙ all_gone c.self.inside.rows c.self.inside.gone (omega (arith, c.if-self-count.true, c.len-count.ensures)) ∙ ap (drop 1) c.self.view_is

pub returns-then-self-max : goal.returns-then-self-max
returns-then-self-max c = drop_more c.self.inside.rows c.self.inside.gone ∙ ap (drop 1) c.self.view_is

pub returns : goal.returns
returns c = c.close_up.ensures ∙ drop_more c.self.inside.rows c.self.inside.gone ∙ ap (drop 1) c.self.view_is
