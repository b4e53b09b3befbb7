use Rattle.std.proofs.Common.{◌≡◌, ◌∙◌, ◌+◌, List, map, refl, sym, ap, subst}
use Rattle.std.specs.Prelude.{string_bytes}
use Rattle.meaning.specs.Values as meant
use Rattle.meaning.specs.Values.{Name, Task}
use Rattle.meaning.specs.Meaning.{replay}
use Rattle.script_check.specs.Trees.{script_of}
use Rattle.values.specs.Values.{content_of}
use Rattle.task_spec.specs.Births.{argument_of as task_argument, birth_of}
use Rattle.frame_laws.specs.Steps.{HasSteps}
use Rattle.frames.specs.Values.{outcome_of}
use Rattle.frames.specs.Machines.{argument_of}
use Rattle.frames.specs.Courses.{no_past}
use Rattle.frames.proofs.Doing.{if_ok, on_err}
use Rattle.evaluation.specs.Pieces.{stop_of}
use Rattle.evaluation.proofs.Standing.{both_ok, kept_so, piece_is, stands_so, stopped_of}
use Rattle.evaluation.proofs.TaskRuns.{plain_replay, plain_birth, plain_contents}
use Rattle.evaluation.proofs.piece.run_piece.Goals as goal

-- what the attempt did, as tasks have it, is the task's replay
pub returns-in_ok-attempt-in-Task-clause-replayed : goal.returns-in_ok-attempt-in-Task-clause-replayed
returns-in_ok-attempt-in-Task-clause-replayed c =
    let task = λ (g : Name) (args : List meant.Argument). Task g args c.in-Task.depth c.in-Task.retries c.in-Task.others in
    let script = script_of c.args.script.now in
    let answers = map content_of c.args.answers.now in
    let is : birth_of c.args.spec.now ≡ task c.as_str.result.now (map argument_of c.as_slice-in-Task.result.now) =
    ap birth_of c.in-Task.is ∙ ap (λ g. task g (map task_argument c.in-Task.arguments)) (ap string_bytes (sym c.deref.ensures) ∙ sym c.as_str.ensures.value)
    ∙ ap (λ xs. task c.as_str.result.now (map task_argument xs)) (sym c.as_slice.ensures)
    ∙ ap (task c.as_str.result.now) (sym c.in_ok-arguments-in-Task.ensures ∙ ap (map argument_of) (sym c.as_slice-in-Task.ensures)) in
    let stands =
    stands_so script c.args.spec.now c.as_str.result.now (map argument_of c.as_slice-in-Task.result.now) c.in-Task.depth c.in-Task.retries c.in-Task.others c.args.base
    (map outcome_of c.in_ok-answers-in-Task.answers.items) answers c.in_ok-attempt-in-Task.attempt (c.in_ok-attempt-in-Task.ensures.halts c.in-Task.retries c.in-Task.others)
    is c.in_ok-answers-in-Task.ensures in
    if_ok _ _ c.finish.result
    (λ p of. piece_is (c.in-Task.others + 1) p c.in_ok-attempt-in-Task.attempt of ∙ sym (stands (stop_of p.outcomes.stop) of.stop))
    c.finish.ensures.value

-- it is broken only where the replay is
pub returns-in_ok-attempt-in-Task-clause-broken : goal.returns-in_ok-attempt-in-Task-clause-broken
returns-in_ok-attempt-in-Task-clause-broken c =
    let task = λ (g : Name) (args : List meant.Argument). Task g args c.in-Task.depth c.in-Task.retries c.in-Task.others in
    let script = script_of c.args.script.now in
    let answers = map content_of c.args.answers.now in
    let is : birth_of c.args.spec.now ≡ task c.as_str.result.now (map argument_of c.as_slice-in-Task.result.now) =
    ap birth_of c.in-Task.is ∙ ap (λ g. task g (map task_argument c.in-Task.arguments)) (ap string_bytes (sym c.deref.ensures) ∙ sym c.as_str.ensures.value)
    ∙ ap (λ xs. task c.as_str.result.now (map task_argument xs)) (sym c.as_slice.ensures)
    ∙ ap (task c.as_str.result.now) (sym c.in_ok-arguments-in-Task.ensures ∙ ap (map argument_of) (sym c.as_slice-in-Task.ensures)) in
    let stands =
    stands_so script c.args.spec.now c.as_str.result.now (map argument_of c.as_slice-in-Task.result.now) c.in-Task.depth c.in-Task.retries c.in-Task.others c.args.base
    (map outcome_of c.in_ok-answers-in-Task.answers.items) answers c.in_ok-attempt-in-Task.attempt (c.in_ok-attempt-in-Task.ensures.halts c.in-Task.retries c.in-Task.others)
    is c.in_ok-answers-in-Task.ensures in
    on_err _ _ c.finish.result
    (λ e broken is_broken. broken is_broken no_past (replay script (birth_of c.args.spec.now) c.args.base answers) stands
    (plain_replay script (birth_of c.args.spec.now) c.args.base answers (plain_birth c.args.spec.now) (plain_contents c.args.answers.now)))
    c.finish.ensures.broken

-- its frame is where the task waits
pub returns-in_ok-attempt-in-Task-clause-keeps : goal.returns-in_ok-attempt-in-Task-clause-keeps
returns-in_ok-attempt-in-Task-clause-keeps c =
    let task = λ (g : Name) (args : List meant.Argument). Task g args c.in-Task.depth c.in-Task.retries c.in-Task.others in
    let script = script_of c.args.script.now in
    let answers = map content_of c.args.answers.now in
    let is : birth_of c.args.spec.now ≡ task c.as_str.result.now (map argument_of c.as_slice-in-Task.result.now) =
    ap birth_of c.in-Task.is ∙ ap (λ g. task g (map task_argument c.in-Task.arguments)) (ap string_bytes (sym c.deref.ensures) ∙ sym c.as_str.ensures.value)
    ∙ ap (λ xs. task c.as_str.result.now (map task_argument xs)) (sym c.as_slice.ensures)
    ∙ ap (task c.as_str.result.now) (sym c.in_ok-arguments-in-Task.ensures ∙ ap (map argument_of) (sym c.as_slice-in-Task.ensures)) in
    both_ok _ _ _ c.finish.result
    (λ p of frame. kept_so (c.in-Task.others + 1) p c.in_ok-attempt-in-Task.attempt of script (task c.as_str.result.now (map argument_of c.as_slice-in-Task.result.now))
    (birth_of c.args.spec.now) c.args.base no_past (map outcome_of c.in_ok-answers-in-Task.answers.items) answers is c.in_ok-answers-in-Task.ensures
    frame (c.in_ok-attempt-in-Task.ensures.keeps c.in-Task.retries c.in-Task.others))
    c.finish.ensures.value c.finish.ensures.frame

-- its steps are those since the last answer
pub returns-in_ok-attempt-in-Task-clause-counts : goal.returns-in_ok-attempt-in-Task-clause-counts
returns-in_ok-attempt-in-Task-clause-counts c =
    let task = λ (g : Name) (args : List meant.Argument). Task g args c.in-Task.depth c.in-Task.retries c.in-Task.others in
    let script = script_of c.args.script.now in
    let base = c.args.base in
    let a = c.in_ok-attempt-in-Task.attempt in
    let is : birth_of c.args.spec.now ≡ task c.as_str.result.now (map argument_of c.as_slice-in-Task.result.now) =
    ap birth_of c.in-Task.is ∙ ap (λ g. task g (map task_argument c.in-Task.arguments)) (ap string_bytes (sym c.deref.ensures) ∙ sym c.as_str.ensures.value)
    ∙ ap (λ xs. task c.as_str.result.now (map task_argument xs)) (sym c.as_slice.ensures)
    ∙ ap (task c.as_str.result.now) (sym c.in_ok-arguments-in-Task.ensures ∙ ap (map argument_of) (sym c.as_slice-in-Task.ensures)) in
    both_ok _ _ _ c.finish.result
    (λ p of steps. subst (HasSteps script (birth_of c.args.spec.now) base (map content_of c.args.answers.now)) (sym steps)
    (subst (λ os. HasSteps script (birth_of c.args.spec.now) base os a.steps) c.in_ok-answers-in-Task.ensures
    (subst (λ b. HasSteps script b base (map outcome_of c.in_ok-answers-in-Task.answers.items) a.steps) (sym is)
    (c.in_ok-attempt-in-Task.ensures.counts c.in-Task.retries c.in-Task.others (stop_of p.outcomes.stop)
    (stopped_of a.halt (task c.as_str.result.now (map argument_of c.as_slice-in-Task.result.now)) c.in-Task.others _ refl of.stop)))))
    c.finish.ensures.value c.finish.ensures.steps
