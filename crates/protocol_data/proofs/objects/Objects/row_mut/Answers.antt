use Rattle.std.proofs.Common.{◌∙◌, ap, refl, sym}
use Rattle.std.specs.Prelude.{slice_get, slice_set}
use Rattle.protocol_data.proofs.Serials.{lent_searched, values_lent}
use Rattle.protocol_data.proofs.objects.Objects.row_mut.Goals as goal

pub invariant_of-self-lent : goal.invariant_of-self-lent
invariant_of-self-lent c w =
    lent_searched c.self.inside.rows c.self.inside.search _ c.args.place w c.self.invariant c.mark.ensures.marked c.mark.ensures.unseen

pub returns : goal.returns
returns c = (
  (refl, λ w. values_lent c.self.inside.rows c.args.place w ∙ ap (λ xs. slice_set xs c.args.place w) c.self.view_is),
  record { lends = tt; value = ap (λ xs. slice_get xs c.args.place) (sym c.self.view_is) ∙ c.index_mut.ensures.value },
)
