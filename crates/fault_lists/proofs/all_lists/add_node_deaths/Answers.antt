use Rattle.fault_lists.proofs.Firsts.{adds_none, adds_one}
use Rattle.fault_lists.proofs.Nodes.{no_node_deaths, one_node_death_more}
use Rattle.fault_lists.proofs.all_lists.add_node_deaths.Goals as goal

pub loop-number-init : goal.loop-number-init
loop-number-init c = adds_none c.args.lists.now _ (no_node_deaths c.args.place)

pub loop-number-preserved : goal.loop-number-preserved
loop-number-preserved c =
    adds_one c.args.lists.now c.loop-number.lists c.add_alone.new.lists _ _ _ c.loop-number.invariant c.in_ok-add_alone.ensures
    (one_node_death_more c.args.place c.loop-number.number)
