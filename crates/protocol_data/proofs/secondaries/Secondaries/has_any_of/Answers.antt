use Rattle.std.proofs.Common.{ap, sym, ◌∙◌, None}
use Rattle.std.specs.List.{list_any}
use Rattle.std.specs.Option.{is_some}
use Rattle.protocol_data.specs.Recent.{copies_in, copies_of}
use Rattle.protocol_data.specs.Shelves.{is_sought}
use Rattle.protocol_data.proofs.Recency.{any_found}
use Rattle.protocol_data.proofs.secondaries.Secondaries.has_any_of.Goals as goal

pub returns-in-Some : goal.returns-in-Some
returns-in-Some c =
    c.is_some.ensures
    ∙ ap is_some c.key_of.ensures
    ∙ sym (any_found c.args.object (copies_of c.in-Some.cache.entries))
    ∙ ap (list_any (is_sought c.args.object None)) (sym (ap copies_in c.in-Some.is) ∙ c.self.view_is)
