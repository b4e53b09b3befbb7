use Rattle.std.proofs.Common.{◌∙◌, ap, rules, ℕ}
use Rattle.std.specs.Prelude.{not, ◌==◌}
use Rattle.std.specs.List.{filter}
use Rattle.std.proofs.lemmas.Fn.{filter_same}
use Rattle.protocol_data.proofs.idle_workers.take_out.Goals as goal

pub returns : goal.returns
returns c =
    let kept = λ (x : ℕ). not (x == c.args.worker) in
    filter_same _ kept _ (λ x b f' k. search rules) _ _ c.retain.ensures.filtered ∙ ap (filter kept) c.rows.view_is
