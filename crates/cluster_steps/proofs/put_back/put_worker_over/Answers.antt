use Rattle.std.proofs.Common.{◌∙◌, sym}
use Rattle.number_lists.proofs.Places.{set_over}
use Rattle.cluster_steps.proofs.put_back.put_worker_over.Goals as goal

pub returns-then-went : goal.returns-then-went
returns-then-went c =
    c.settle.ensures ∙ c.exchange.ensures.put
    ∙ sym (set_over c.args.workers.now c.args.place c.args.number c.args.worker.now c.requires.place_in c.requires.number)

pub returns-else-went : goal.returns-else-went
returns-else-went c =
    c.exchange.ensures.put ∙ sym (set_over c.args.workers.now c.args.place c.args.number c.args.worker.now c.requires.place_in c.requires.number)
