use Rattle.std.proofs.Common.{◌≡◌, suc, Some, map, sym, ap, ◌∙◌, subst, arith}
use Rattle.meaning.specs.Values.{Task}
use Rattle.meaning.specs.Meaning.{find, replay}
use Rattle.script_check.specs.Trees.{script_of}
use Rattle.frame_laws.specs.Compile.{number_of}
use Rattle.std.proofs.Common.{length}
use Rattle.frames.specs.Values.{outcome_of}
use Rattle.frames.specs.Machines.{argument_of}
use Rattle.frames.specs.Courses.{no_past}
use Rattle.frame_laws.specs.Steps.{HasSteps}
use Rattle.frames.specs.Frames.{KeepsFrame, CountsSteps}
use Rattle.frames.specs.Tasks.{matched, mismatch_stop, stopped_by}
use Rattle.frames.proofs.Doing.{if_ok, always_if_ok, always_on_err}
use Rattle.frames.proofs.Finding.{has_one, has_none}
use Rattle.frames.proofs.Mismatching.{mismatch_piece}
use Rattle.frames.proofs.Stopping.{nothing_at, deep_counts, mismatch_counts}
use Rattle.frames.proofs.attempt.run_task.Goals as goal

-- where no function takes the task, it stops where the replay does, which is at its arguments
pub returns-then-number-functions-clause-halts : goal.returns-then-number-functions-clause-halts
returns-then-number-functions-clause-halts c retries others s e =
    let fs = c.functions-functions.result.now in
    let g = c.args.function.now in
    let args = map argument_of c.args.arguments.now in
    let answers = map outcome_of c.args.answers.items in
    let none = has_none fs g c.args.arguments.now c.number_of-number.result c.number_of-number.ensures c.if-number-functions.true in
    let done = c.nothing_done-then-number-functions in
    ap (λ gs. replay (script_of gs) (Task g args c.args.depth retries others) c.args.base answers) (sym (c.functions-functions.ensures.value ∙ c.script.ensures))
    ∙ mismatch_piece (script_of fs) g args c.args.depth retries others c.args.base answers (omega (arith, c.if-depth-gt-DEEPEST.false)) none
    ∙ nothing_at done.result (mismatch_stop (suc others) (matched (script_of fs) g args) answers) s done.ensures.births done.ensures.prints
    (ap (λ os. mismatch_stop (suc others) (matched (script_of fs) g args) (map outcome_of os)) (sym c.deref.ensures.value)
    ∙ c.stop_mismatch-halt.ensures.stops (suc others) s (subst (λ h. stopped_by (suc others) h ≡ Some s) done.ensures.halt e))

-- else the run from the task's first state stops where the replay does
pub returns-clause-halts : goal.returns-clause-halts
returns-clause-halts c =
    let fs = c.functions-functions.result.now in
    let g = c.args.function.now in
    let xs = c.args.arguments.now in
    let script = script_of c.args.script.now in
    let base = c.args.base in
    let one = has_one fs g xs c.number_of-number.result c.number_of-number.ensures (omega (arith, c.if-number-functions.false)) in
    let same = c.functions-functions.ensures.value ∙ c.script.ensures in
    let answers = c.run-halt.ensures.answers ∙ c.in_ok-course.ensures.answers in
    if_ok _ _ c.stop.result
    (λ a halts retries others s e.
    let task = Task g (map argument_of xs) c.args.depth retries others in
    let stands =
    c.in_ok-course.ensures.stands script g one.function c.args.depth retries others c.code-code.ensures
    (c.number_of-number.ensures ∙ ap (λ gs. number_of (script_of gs) g (length xs)) same) (ap (λ gs. find (script_of gs) g) (sym same) ∙ one.found) one.count
    (omega (arith, c.if-depth-gt-DEEPEST.false)) in
    let stops = c.run-halt.ensures.stops script task base no_past c.code-code.ensures stands in
    ap (λ os. replay script task base os) (sym answers) ∙ halts script task base no_past stops s e)
    c.stop.ensures.halts

-- and keeps the frame in which it waits
pub returns-clause-keeps : goal.returns-clause-keeps
returns-clause-keeps c =
    let fs = c.functions-functions.result.now in
    let g = c.args.function.now in
    let xs = c.args.arguments.now in
    let script = script_of c.args.script.now in
    let base = c.args.base in
    let one = has_one fs g xs c.number_of-number.result c.number_of-number.ensures (omega (arith, c.if-number-functions.false)) in
    let same = c.functions-functions.ensures.value ∙ c.script.ensures in
    let answers = c.run-halt.ensures.answers ∙ c.in_ok-course.ensures.answers in
    if_ok _ _ c.stop.result
    (λ a keeps retries others.
    let task = Task g (map argument_of xs) c.args.depth retries others in
    let stands =
    c.in_ok-course.ensures.stands script g one.function c.args.depth retries others c.code-code.ensures
    (c.number_of-number.ensures ∙ ap (λ gs. number_of (script_of gs) g (length xs)) same) (ap (λ gs. find (script_of gs) g) (sym same) ∙ one.found) one.count
    (omega (arith, c.if-depth-gt-DEEPEST.false)) in
    let stops = c.run-halt.ensures.stops script task base no_past c.code-code.ensures stands in
    subst (λ os. KeepsFrame script task base no_past os a) answers (keeps script task base no_past stops))
    c.stop.ensures.keeps

pub returns-then-depth-gt-DEEPEST-clause-counts : goal.returns-then-depth-gt-DEEPEST-clause-counts
returns-then-depth-gt-DEEPEST-clause-counts c retries others s e =
    let args = map argument_of c.args.arguments.now in
    let answers = map outcome_of c.args.answers.items in
    deep_counts (script_of c.args.script.now) c.args.function.now args c.args.depth retries others c.args.base answers _ c.nothing_done.ensures.steps
    (omega (arith, c.if-depth-gt-DEEPEST.true))

pub returns-then-number-functions-clause-counts : goal.returns-then-number-functions-clause-counts
returns-then-number-functions-clause-counts c retries others s e =
    let fs = c.functions-functions.result.now in
    let g = c.args.function.now in
    let args = map argument_of c.args.arguments.now in
    let answers = map outcome_of c.args.answers.items in
    let none = has_none fs g c.args.arguments.now c.number_of-number.result c.number_of-number.ensures c.if-number-functions.true in
    let done = c.nothing_done-then-number-functions in
    subst (λ gs. HasSteps (script_of gs) (Task g args c.args.depth retries others) c.args.base answers done.result.steps)
    (c.functions-functions.ensures.value ∙ c.script.ensures)
    (mismatch_counts (script_of fs) g args c.args.depth retries others c.args.base answers done.result.steps done.ensures.steps
    (omega (arith, c.if-depth-gt-DEEPEST.false)) none)

pub returns-clause-counts : goal.returns-clause-counts
returns-clause-counts c =
    let fs = c.functions-functions.result.now in
    let g = c.args.function.now in
    let xs = c.args.arguments.now in
    let script = script_of c.args.script.now in
    let base = c.args.base in
    let one = has_one fs g xs c.number_of-number.result c.number_of-number.ensures (omega (arith, c.if-number-functions.false)) in
    let same = c.functions-functions.ensures.value ∙ c.script.ensures in
    let answers = c.run-halt.ensures.answers ∙ c.in_ok-course.ensures.answers in
    if_ok _ _ c.stop.result
    (λ a counts retries others.
    let task = Task g (map argument_of xs) c.args.depth retries others in
    let stands =
    c.in_ok-course.ensures.stands script g one.function c.args.depth retries others c.code-code.ensures
    (c.number_of-number.ensures ∙ ap (λ gs. number_of (script_of gs) g (length xs)) same) (ap (λ gs. find (script_of gs) g) (sym same) ∙ one.found) one.count
    (omega (arith, c.if-depth-gt-DEEPEST.false)) in
    let stops = c.run-halt.ensures.stops script task base no_past c.code-code.ensures stands in
    subst (λ os. CountsSteps script task base os a) answers (counts script task base no_past stops))
    c.stop.ensures.counts

pub returns-clause-shallow : goal.returns-clause-shallow
returns-clause-shallow c = always_on_err _ c.stop.result (omega (arith, c.if-depth-gt-DEEPEST.false))

pub returns-clause-began : goal.returns-clause-began
returns-clause-began c = always_if_ok _ c.stop.result (λ a e. omega (arith, c.if-depth-gt-DEEPEST.false))
