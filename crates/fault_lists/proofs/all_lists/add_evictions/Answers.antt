use Rattle.fault_lists.proofs.Firsts.{adds_none, adds_one}
use Rattle.fault_lists.proofs.Nodes.{no_evictions, one_eviction_more}
use Rattle.fault_lists.proofs.all_lists.add_evictions.Goals as goal

pub loop-number-init : goal.loop-number-init
loop-number-init c = adds_none c.args.lists.now _ (no_evictions c.args.place c.args.object)

pub loop-number-preserved : goal.loop-number-preserved
loop-number-preserved c =
    adds_one c.args.lists.now c.loop-number.lists c.add_alone.new.lists _ _ _ c.loop-number.invariant c.in_ok-add_alone.ensures
    (one_eviction_more c.args.place c.args.object c.loop-number.number)
