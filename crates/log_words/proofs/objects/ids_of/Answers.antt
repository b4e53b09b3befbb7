use Rattle.std.proofs.Common.{ap, ◌∙◌}
use Rattle.values.specs.Values.{value_of}
use Rattle.values.specs.Listed.{ids_listed, adding}
use Rattle.values.proofs.ListedLaws.{adding-each_once}
use Rattle.log_words.proofs.objects.ids_of.Goals as goal

pub returns : goal.returns
returns c =
    c.in_ok-add_ids.ensures.done
    ∙ ap (λ seen. adding seen (ids_listed (value_of c.args.value.now))) c.new-found.ensures.items
    ∙ adding-each_once (ids_listed (value_of c.args.value.now))
