use Rattle.std.proofs.Common.{sym, ap, ◌∙◌}
use Rattle.values.specs.Values.{value_of, content_of}
use Rattle.values.specs.Listed.{ids_listed, ids_in_outcome, each_once, adding}
use Rattle.values.proofs.ListedLaws.{adding-each_once}
use Rattle.values.proofs.content.ids_in.Goals as goal

pub returns-in_ok-add_ids-in-Value : goal.returns-in_ok-add_ids-in-Value
returns-in_ok-add_ids-in-Value c =
    c.in_ok-add_ids-in-Value.ensures.done
    ∙ ap (λ seen. adding seen (ids_listed (value_of c.in-Value.value))) c.new-found.ensures.items
    ∙ adding-each_once (ids_listed (value_of c.in-Value.value))
    ∙ ap (λ d. each_once (ids_in_outcome (content_of d))) (sym c.in-Value.is)
