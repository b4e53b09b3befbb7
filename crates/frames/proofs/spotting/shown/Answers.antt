use Rattle.frames.proofs.Shown.{list_shown}
use Rattle.frames.proofs.spotting.shown.Goals as goal

pub returns-in-List : goal.returns-in-List
returns-in-List c = list_shown c.args.value.now c.in-List.items c.deref.result.now c.len.result c.in-List.is c.deref.ensures c.len.ensures
