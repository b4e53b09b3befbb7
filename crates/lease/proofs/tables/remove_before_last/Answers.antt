use Rattle.std.proofs.Common.{◌++◌, ◌∷◌, [], ℕ, rules, ap, sym, ◌∙◌}
use Rattle.std.specs.Prelude.{not, ◌==◌}
use Rattle.std.specs.List.{filter}
use Rattle.std.proofs.lemmas.Fn.{filter_same}
use Rattle.number_lists.specs.of_protocol.Sets.{without_number}
use Rattle.lease.proofs.Freeing.{last_parts}
use Rattle.lease.proofs.tables.remove_before_last.Goals as goal

pub returns : goal.returns
returns c xs x e =
    let kept = λ (y : ℕ). not (y == c.args.worker) in
    let parts = last_parts c.pop.new.self.items xs c.in-Some.last x (sym c.in-Some.ensures.items ∙ c.workers.view_is ∙ e) in
    let others = filter_same _ kept _ (λ y b f' k. search rules) _ _ c.retain.ensures.filtered in
    c.push_reserved.ensures.items ∙ ap (λ ys. ys ++ c.in-Some.last ∷ []) (others ∙ ap (filter kept) parts.0) ∙ ap (λ y. without_number xs c.args.worker ++ y ∷ []) parts.1
