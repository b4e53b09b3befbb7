use Rattle.std.proofs.Common.{◌∙◌, sym}
use Rattle.number_lists.proofs.Places.{set_over}
use Rattle.cluster_steps.proofs.put_back.put_over.Goals as goal

pub returns : goal.returns
returns g c = c.lay.ensures ∙ sym (set_over c.args.items.now c.args.place c.args.number c.args.item.now c.requires.place_in c.requires.number)
