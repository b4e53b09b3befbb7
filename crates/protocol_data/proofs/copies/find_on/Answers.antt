use Rattle.std.proofs.Common.{◌∙◌}
use Rattle.protocol_data.specs.Shelves.{is_sought}
use Rattle.protocol_data.proofs.Shelving.{found_so_far, none_further}
use Rattle.protocol_data.proofs.copies.find_on.Goals as goal

pub returns-in-Some : goal.returns-in-Some
returns-in-Some c =
    found_so_far (is_sought c.args.object c.args.number) c.deref-shelf-items.result.now c.args.shelves.now c.loop-shelf.shelf-index c.shelf-item.result c.in-Some.copy.now
    (c.deref-shelf-items.ensures.value ∙ c.shelves.view_is) c.loop-shelf-test.true c.shelf-item.is c.loop-shelf.invariant.0 c.in-Some.ensures

pub loop-shelf-preserved : goal.loop-shelf-preserved
loop-shelf-preserved c =
    none_further (is_sought c.args.object c.args.number) c.deref-shelf-items.result.now c.loop-shelf.shelf-index c.shelf-item.result c.loop-shelf-test.true c.shelf-item.is
    c.loop-shelf.invariant c.in_default.ensures
