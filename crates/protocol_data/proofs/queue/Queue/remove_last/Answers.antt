use Rattle.std.proofs.Common.{ap, drop, ◌∙◌}
use Rattle.protocol_data.proofs.Queueing.{without_last}
use Rattle.protocol_data.proofs.queue.Queue.remove_last.Goals as goal

pub returns : goal.returns
returns c = λ xs x e. ap (drop c.self.inside.gone) c.take_last.ensures ∙ without_last c.self.inside.rows c.self.inside.gone xs x (c.self.view_is ∙ e)
