use Rattle.protocol_data.proofs.Shelving.{at_none, at_others, at_shelved}
use Rattle.protocol_data.proofs.copies.take_at.Goals as goal

pub returns-clause-shelved : goal.returns-clause-shelved
returns-clause-shelved c =
    at_shelved c.args.object c.args.number c.shelves.inside.items.items c.args.shelves.now c.args.place c.index_mut-shelf.result.now c.take_here.new.shelf c.shelves.view_is
    c.requires.place_in c.index_mut-shelf.ensures.value c.requires.shelved c.take_here.ensures.span c.take_here.ensures.rows

pub returns-clause-none : goal.returns-clause-none
returns-clause-none c =
    at_none c.args.object c.args.number c.shelves.inside.items.items c.args.shelves.now c.args.place c.index_mut-shelf.result.now c.take_here.new.shelf c.shelves.view_is
    c.requires.place_in c.index_mut-shelf.ensures.value c.requires.shelved c.take_here.ensures.rows

pub returns-clause-others : goal.returns-clause-others
returns-clause-others c =
    at_others c.args.object c.args.number c.shelves.inside.items.items c.args.shelves.now c.args.place c.index_mut-shelf.result.now c.take_here.new.shelf c.shelves.view_is
    c.requires.place_in c.index_mut-shelf.ensures.value c.requires.shelved c.take_here.ensures.rows
