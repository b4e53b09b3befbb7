use Rattle.std.proofs.Common.{◌∙◌, ap, rules}
use Rattle.std.specs.Prelude.{not, ◌==◌}
use Rattle.std.specs.List.{filter}
use Rattle.std.proofs.lemmas.Fn.{filter_same}
use Rattle.seats.specs.declared.outs.JobOut.{JobOut}
use Rattle.seats.proofs.outs.take_out.Goals as goal

pub returns : goal.returns
returns c =
    let kept = λ (x : JobOut). not (x.job == c.args.job) in
    filter_same _ kept _ (λ x b f' k. search rules) _ _ c.retain.ensures.filtered ∙ ap (filter kept) c.out.view_is
