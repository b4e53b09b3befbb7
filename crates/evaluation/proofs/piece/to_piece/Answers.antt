use Rattle.std.proofs.Common.{◌≡◌, ◌++◌, sym, ap, subst, ◌∙◌, map, Some}
use Rattle.meaning.specs.Runs as runs
use Rattle.frames.specs.Values.{value_of}
use Rattle.frames.specs.Courses.{Past}
use Rattle.evaluation.specs.TaskValues.{IsTaskPiece, AreTaskBirths, EachTaskValue}
use Rattle.held.specs.declared.outcomes.Outcomes.{Outcomes}
use Rattle.evaluation.specs.Pieces.{stop_of, IsBrokenStop, Stands}
use Rattle.evaluation.specs.declared.convert.ConversionError.{ConversionError}
use Rattle.evaluation.specs.declared.convert.ConversionError.TheVariants.{Broken, HasOutcome}
use Rattle.evaluation.proofs.Standing.{births_behind, handed_on, broken_stop, not_task, values_behind}
use Rattle.evaluation.proofs.piece.to_piece.Goals as goal

-- of stop, births and prints: what is no task's is broken only where the piece meant is
pub returns-in_err-stop-clause-broken : goal.returns-in_err-stop-clause-broken
returns-in_err-stop-clause-broken c =
    let a = c.args.attempt in
    handed_on (λ (e : ConversionError). e ≡ Broken → (past : Past) (q : runs.Piece) → Stands c.args.count past a q → IsBrokenStop q.stop)
    c.from_residual.result
    c.in_err-stop.field-0.0 c.from_residual.ensures.1
    (λ e past q stands. broken_stop c.args.count past a q (c.in_err-stop.ensures.broken e) stands)

-- and where that has no outcome in a value, it is a task's
pub returns-in_err-stop-clause-plain : goal.returns-in_err-stop-clause-plain
returns-in_err-stop-clause-plain c =
    let a = c.args.attempt in
    handed_on (λ (e : ConversionError). e ≡ HasOutcome → (past : Past) (q : runs.Piece) → Stands c.args.count past a q → IsTaskPiece q → ⊥) c.from_residual.result c.in_err-stop.field-0.0
    c.from_residual.ensures.1
    (λ e past q stands plain. not_task c.args.count past a q (c.in_err-stop.ensures.plain e) stands plain)

pub returns-in_err-births-clause-broken : goal.returns-in_err-births-clause-broken
returns-in_err-births-clause-broken c =
    let a = c.args.attempt in
    handed_on (λ (e : ConversionError). e ≡ Broken → (past : Past) (q : runs.Piece) → Stands c.args.count past a q → IsBrokenStop q.stop)
    c.from_residual-in_err-births.result
    c.in_err-births.field-0.0 c.from_residual-in_err-births.ensures.1
    (λ e past q stands. absurd (c.in_err-births.ensures.kind e))

pub returns-in_err-births-clause-plain : goal.returns-in_err-births-clause-plain
returns-in_err-births-clause-plain c =
    let a = c.args.attempt in
    handed_on (λ (e : ConversionError). e ≡ HasOutcome → (past : Past) (q : runs.Piece) → Stands c.args.count past a q → IsTaskPiece q → ⊥) c.from_residual-in_err-births.result
    c.in_err-births.field-0.0 c.from_residual-in_err-births.ensures.1
    (λ e past q stands plain. c.in_err-births.ensures.plain e (births_behind past.births _ (subst AreTaskBirths
    (ap (λ (p : runs.Piece). p.births) (stands (stop_of c.in_ok-stop.stop) c.in_ok-stop.ensures.value))
    plain.births)))

pub returns-in_err-prints-clause-broken : goal.returns-in_err-prints-clause-broken
returns-in_err-prints-clause-broken c =
    let a = c.args.attempt in
    handed_on (λ (e : ConversionError). e ≡ Broken → (past : Past) (q : runs.Piece) → Stands c.args.count past a q → IsBrokenStop q.stop)
    c.from_residual-in_err-prints.result
    c.in_err-prints.field-0.0 c.from_residual-in_err-prints.ensures.1
    (λ e past q stands. absurd (c.in_err-prints.ensures.kind e))

pub returns-in_err-prints-clause-plain : goal.returns-in_err-prints-clause-plain
returns-in_err-prints-clause-plain c =
    let a = c.args.attempt in
    handed_on (λ (e : ConversionError). e ≡ HasOutcome → (past : Past) (q : runs.Piece) → Stands c.args.count past a q → IsTaskPiece q → ⊥) c.from_residual-in_err-prints.result
    c.in_err-prints.field-0.0 c.from_residual-in_err-prints.ensures.1
    (λ e past q stands plain. c.in_err-prints.ensures.plain e (values_behind past.prints _ (subst EachTaskValue
    (ap (λ (p : runs.Piece). p.prints) (stands (stop_of c.in_ok-stop.stop) c.in_ok-stop.ensures.value)
    ∙ ap (λ vs. past.prints ++ map value_of vs) (sym c.deref.ensures.value))
    plain.prints)))

-- with all three converted it is the piece of that attempt
pub returns-clause-value : goal.returns-clause-value
returns-clause-value c =
    let is = c.in_ok-outcomes.ensures in
    record {
      births = ap (λ (o : Outcomes). o.births) is ∙ c.in_ok-births.ensures.value;
      prints = ap (λ (o : Outcomes). o.prints) is ∙ c.in_ok-prints.ensures.value ∙ ap (map value_of) c.deref.ensures.value;
      stop = c.in_ok-stop.ensures.value ∙ ap (λ (o : Outcomes). Some (stop_of o.stop)) (sym is);
    }
