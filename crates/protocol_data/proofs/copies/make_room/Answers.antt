use Rattle.std.proofs.Common.{◌++◌, ◌∙◌, ap, subst, sym}
use Rattle.protocol_data.specs.declared.copies.Shelf.{Shelf}
use Rattle.protocol_data.specs.Shelves.{AreShelved, AreWithin, copies_on}
use Rattle.protocol_data.proofs.Shelving.{made_room, shelved_push}
use Rattle.protocol_data.proofs.copies.make_room.Goals as goal

pub returns-in-Ok-clause-rows : goal.returns-in-Ok-clause-rows
returns-in-Ok-clause-rows c =
    made_room c.args.shelves.now c.drop_empty.new.shelves c.push_shelf.new.shelves c.replace-full.result c.replace-full.new.dest c.drop_empty.ensures.rows c.in-Ok.ensures.ok
    (ap (λ (z : Shelf). z.rows) c.replace-full.ensures.after ∙ c.empty_shelf-empty.ensures)
    ∙ ap (λ (z : Shelf). copies_on c.args.shelves.now ++ z.rows) c.replace-full.ensures.value

pub returns-in-Ok-clause-shelved : goal.returns-in-Ok-clause-shelved
returns-in-Ok-clause-shelved c =
    λ w v. (
      subst AreShelved (sym c.in-Ok.ensures.ok)
          (shelved_push c.drop_empty.new.shelves c.replace-full.result (c.drop_empty.ensures.shelved w)
          (subst (λ (z : Shelf). AreWithin z.span z.rows) (sym c.replace-full.ensures.value) v)),
      subst (λ ys. AreWithin c.replace-full.new.dest.span ys) (sym (ap (λ (z : Shelf). z.rows) c.replace-full.ensures.after ∙ c.empty_shelf-empty.ensures)) tt,
    )
