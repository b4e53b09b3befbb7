use Rattle.std.proofs.Common.{ap}
use Rattle.std.specs.Prelude.{slice_set}
use Rattle.protocol.specs.Tables.{without_location}
use Rattle.death_steps.proofs.Losing.{one_lost}
use Rattle.death_steps.proofs.node_deaths.lose_locations_of.Goals as goal

pub loop-place-preserved : goal.loop-place-preserved
loop-place-preserved c =
    let found = c.row_mut-object.result.now in
    one_lost (without_location c.args.node) c.args.objects.now c.loop-place.objects _ c.loop-place.place found c.loop-place.invariant c.row_mut-object.ensures.value
    (ap (λ ps. slice_set c.loop-place.objects c.loop-place.place (record found { locations = ps })) c.remove_node.ensures)
