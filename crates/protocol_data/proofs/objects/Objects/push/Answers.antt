use Rattle.std.proofs.Common.{◌∙◌, ◌++◌, ◌∷◌, [], ap}
use Rattle.protocol_data.proofs.Serials.{pushed_searched, values_pushed}
use Rattle.protocol_data.proofs.objects.Objects.push.Goals as goal

pub invariant_of-self-in-Ok : goal.invariant_of-self-in-Ok
invariant_of-self-in-Ok c =
    pushed_searched c.self.inside.rows c.insert.new.self c.self.inside.search c.self.invariant _ _ _ c.args.object c.len-end.ensures.len
    c.least-self-inside.ensures.one c.least-self-inside.ensures.other c.in_ok-push.ensures.ok c.in-Ok.ensures.entries

pub returns-in-Ok-clause-ok : goal.returns-in-Ok-clause-ok
returns-in-Ok-clause-ok c =
    values_pushed c.self.inside.rows _ c.args.object c.self.invariant.0 c.len-end.ensures.len c.insert.new.self c.in-Ok.ensures.entries
    ∙ ap (λ xs. xs ++ c.args.object ∷ []) c.self.view_is
