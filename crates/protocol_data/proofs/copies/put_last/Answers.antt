use Rattle.std.proofs.Common.{◌++◌, ◌∙◌, ◌∷◌, Some, [], ap, sym}
use Rattle.std.specs.Prelude.{not}
use Rattle.protocol_data.specs.Shelves.{is_sought}
use Rattle.protocol_data.proofs.Shelving.{none_found, within_put}
use Rattle.protocol_data.proofs.copies.put_last.Goals as goal

pub returns-in_default-clause-ok : goal.returns-in_default-clause-ok
returns-in_default-clause-ok c =
    c.in_ok-put_here.ensures.ok
    ∙ ap (λ ys. ys ++ c.args.copy ∷ []) (sym (none_found c.args.copy.object (Some c.args.copy.number) c.args.shelf.now.rows c.in_default.ensures))

pub returns-clause-within : goal.returns-clause-within
returns-clause-within c =
    within_put c.args.shelf.now.span c.widened-span.result (λ x. not (is_sought c.args.copy.object (Some c.args.copy.number) x)) c.args.shelf.now.rows c.in_ok-rows.rows
    c.push.new.self c.args.copy c.widened-span.ensures.kept c.widened-span.ensures.has c.requires c.in_ok-push.ensures.ok c.in_ok-rows.ensures
