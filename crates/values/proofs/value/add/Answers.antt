use Rattle.std.proofs.Common.{◌≡◌, [], ◌∷◌, ◌++◌, true, false, sym, ap, ◌∙◌, subst}
use Rattle.std.specs.Prelude.{if◌then◌else◌, is_ok}
use Rattle.values.proofs.ListedLaws.{is_there, there_already, new_there}
use Rattle.values.proofs.value.add.Goals as goal

pub returns-then-is_among-clause-done : goal.returns-then-is_among-clause-done
returns-then-is_among-clause-done c = there_already c.args.found.now.items c.args.object (subst (λ xs. is_there xs c.args.object ≡ true) c.as_slice.ensures.value (sym c.is_among.ensures ∙ c.if-is_among.true))

pub returns-in-Ok-clause-done : goal.returns-in-Ok-clause-done
returns-in-Ok-clause-done c = new_there c.args.found.now.items c.push.new.self.items c.args.object (subst (λ xs. is_there xs c.args.object ≡ false) c.as_slice.ensures.value (sym c.is_among.ensures ∙ c.if-is_among.false)) (c.push.ensures.items ∙ ap (λ r. if is_ok r then c.args.found.now.items ++ c.args.object ∷ [] else c.args.found.now.items) c.in-Ok.is)
