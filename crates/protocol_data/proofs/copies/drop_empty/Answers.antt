use Rattle.std.proofs.Common.{◌∙◌, ap, length, nat_lt, rules, subst, sym}
use Rattle.std.specs.List.{filter}
use Rattle.std.proofs.lemmas.Fn.{filter_same}
use Rattle.protocol_data.specs.declared.copies.Shelf.{Shelf}
use Rattle.protocol_data.specs.Shelves.{AreShelved, copies_on}
use Rattle.protocol_data.proofs.Shelving.{shelved_filter, stay_full}
use Rattle.protocol_data.proofs.copies.drop_empty.Goals as goal

pub returns-clause-rows : goal.returns-clause-rows
returns-clause-rows c =
    let full = λ (s : Shelf). nat_lt 0 (length s.rows) in
    ap copies_on (filter_same _ full _ (λ x b f' k. search rules) _ _ c.retain.ensures.filtered ∙ ap (filter full) c.shelves.view_is) ∙ stay_full c.args.shelves.now

pub returns-clause-shelved : goal.returns-clause-shelved
returns-clause-shelved c =
    let full = λ (s : Shelf). nat_lt 0 (length s.rows) in
    λ w. subst AreShelved (sym (filter_same _ full _ (λ x b f' k. search rules) _ _ c.retain.ensures.filtered ∙ ap (filter full) c.shelves.view_is)) (shelved_filter full c.args.shelves.now w)
