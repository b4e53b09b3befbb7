use Rattle.std.proofs.Common.{◌≡◌, ◌∷◌, ◌++◌, ◌∙◌, ap, map, sym, subst, rules}
use Rattle.frames.specs.Machines.{made_of}
use Rattle.evaluation.specs.TaskValues.{AreTaskBirths}
use Rattle.evaluation.specs.declared.convert.ConversionError.{ConversionError}
use Rattle.evaluation.specs.declared.convert.ConversionError.TheVariants.{HasOutcome}
use Rattle.evaluation.proofs.Standing.{births_behind, handed_on}
use Rattle.evaluation.proofs.convert.to_births.Goals as goal

-- a birth that is no task's is among those that were left, and so among all
pub returns-in_err-to_birth-clause-plain : goal.returns-in_err-to_birth-clause-plain
returns-in_err-to_birth-clause-plain c =
    let rest = map made_of c.next.new.self.rest.items in
    let took : map made_of c.loop-made.made-iterator.rest.items ≡ made_of c.in-Some.made ∷ rest = search (rules, c.in-Some.ensures.steps, c.in-Some.ensures.goes) in
    handed_on (λ (e : ConversionError). e ≡ HasOutcome → AreTaskBirths (map made_of c.args.births.items) → ⊥) c.from_residual-in_err-to_birth.result c.in_err-to_birth.field-0.0 c.from_residual-in_err-to_birth.ensures.1
    (λ e p. c.in_err-to_birth.ensures.plain e
    (births_behind c.loop-made.copies (made_of c.in-Some.made ∷ rest)
    (subst AreTaskBirths (sym c.loop-made.invariant ∙ ap (λ l. c.loop-made.copies ++ l) took) p)).0)
