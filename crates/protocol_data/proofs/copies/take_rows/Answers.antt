use Rattle.std.proofs.Common.{◌∙◌, ap, rules}
use Rattle.std.specs.Prelude.{not}
use Rattle.std.specs.List.{filter}
use Rattle.std.proofs.lemmas.Fn.{filter_same}
use Rattle.protocol_data.specs.declared.store.Copy.{Copy}
use Rattle.protocol_data.specs.Shelves.{is_sought}
use Rattle.protocol_data.proofs.copies.take_rows.Goals as goal

pub returns : goal.returns
returns c =
    let kept = λ (x : Copy). not (is_sought c.args.object c.args.number x) in
    filter_same _ kept _ (λ x b f' k. search rules) _ _ c.retain.ensures.filtered ∙ ap (filter kept) c.copies.view_is
