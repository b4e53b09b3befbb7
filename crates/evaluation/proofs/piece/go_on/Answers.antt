use Rattle.std.proofs.Common.{◌+◌, [], ◌∷◌, ◌++◌, refl, sym, ap, ◌∙◌, subst}
use Rattle.meaning.specs.Meaning.{replay}
use Rattle.script_check.specs.Trees.{script_of}
use Rattle.frame_laws.specs.Steps.{HasSteps}
use Rattle.frame_laws.specs.Resuming.{after}
use Rattle.frames.proofs.Doing.{if_ok, on_err}
use Rattle.evaluation.specs.Pieces.{answered_so, stop_of}
use Rattle.evaluation.proofs.Standing.{both_ok, kept_so, piece_is, stopped_of}
use Rattle.evaluation.proofs.TaskRuns.{plain_replay, plain_last}
use Rattle.evaluation.proofs.piece.go_on.Goals as goal

-- behind what was done before, what the frame's attempt did is the task's replay
pub returns-clause-replayed : goal.returns-clause-replayed
returns-clause-replayed c =
    let script = script_of c.args.script.now in
    let a = c.in_ok-attempt.attempt in
    if_ok _ _ c.finish.result
    (λ p of spec base past counted waiting.
    ap (after past.births past.prints) (piece_is (c.args.others + 1) p a of)
    ∙ sym (c.in_ok-attempt.ensures.halts spec base past waiting (stop_of p.outcomes.stop) (stopped_of a.halt spec c.args.others _ counted of.stop))
    ∙ ap (λ o. replay script spec base (past.answers ++ o ∷ [])) c.in_ok-answer.ensures)
    c.finish.ensures.value

-- it is broken only where the replay is
pub returns-clause-broken : goal.returns-clause-broken
returns-clause-broken c =
    let script = script_of c.args.script.now in
    on_err _ _ c.finish.result
    (λ e broken is spec base past counted plain answers waiting.
    broken is past (replay script spec base (answered_so past c.args.answer.now))
    (λ s stopped. ap (λ o. replay script spec base (past.answers ++ o ∷ [])) (sym c.in_ok-answer.ensures)
    ∙ c.in_ok-attempt.ensures.halts spec base past waiting s (stopped_of c.in_ok-attempt.attempt.halt spec c.args.others _ counted stopped))
    (plain_replay script spec base (answered_so past c.args.answer.now) plain (plain_last past.answers c.args.answer.now answers)))
    c.finish.ensures.broken

pub returns-clause-keeps : goal.returns-clause-keeps
returns-clause-keeps c =
    let script = script_of c.args.script.now in
    both_ok _ _ _ c.finish.result
    (λ p of frame spec base past waiting.
    kept_so (c.args.others + 1) p c.in_ok-attempt.attempt of script spec spec base past _ _ refl (ap (λ o. o ∷ []) c.in_ok-answer.ensures) frame
    (c.in_ok-attempt.ensures.keeps spec base past waiting))
    c.finish.ensures.value c.finish.ensures.frame

pub returns-clause-counts : goal.returns-clause-counts
returns-clause-counts c =
    let script = script_of c.args.script.now in
    both_ok _ _ _ c.finish.result
    (λ p of steps spec base past counted waiting.
    subst (HasSteps script spec base (answered_so past c.args.answer.now)) (sym steps)
    (subst (λ o. HasSteps script spec base (past.answers ++ o ∷ []) c.in_ok-attempt.attempt.steps) c.in_ok-answer.ensures
    (c.in_ok-attempt.ensures.counts spec base past waiting (stop_of p.outcomes.stop) (stopped_of c.in_ok-attempt.attempt.halt spec c.args.others _ counted of.stop))))
    c.finish.ensures.value c.finish.ensures.steps
