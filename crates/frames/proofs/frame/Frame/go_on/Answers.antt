use Rattle.std.proofs.Common.{[], ◌∷◌, ◌++◌, map, refl, ap, ◌∙◌, subst}
use Rattle.script_check.specs.Trees.{script_of}
use Rattle.frames.specs.Values.{outcome_of}
use Rattle.frames.specs.Frames.{HaltsBehind, KeepsFrame, CountsSteps}
use Rattle.frames.proofs.Doing.{if_ok}
use Rattle.frames.proofs.Stopping.{met_again}
use Rattle.frames.proofs.frame.Frame.go_on.Goals as goal

-- from the frame on, with one answer more, it stops where the replay on all answers does
pub returns-clause-halts : goal.returns-clause-halts
returns-clause-halts c =
    let script = script_of c.args.script.now in
    let answers = c.pass-halt.ensures.answers ∙ ap (map outcome_of) c.one.ensures in
    if_ok _ _ c.stop.result
    (λ a halts spec base past waiting.
    subst (λ os. HaltsBehind script spec base past os a) answers
    (halts script spec base past
    (c.pass-halt.ensures.stops script spec base past c.code.ensures
    (met_again script spec base past c.args.self _ waiting refl refl c.new.ensures.items c.new-2.ensures.items refl refl))))
    c.stop.ensures.halts

-- and keeps the frame in which it waits next
pub returns-clause-keeps : goal.returns-clause-keeps
returns-clause-keeps c =
    let script = script_of c.args.script.now in
    let answers = c.pass-halt.ensures.answers ∙ ap (map outcome_of) c.one.ensures in
    if_ok _ _ c.stop.result
    (λ a keeps spec base past waiting.
    subst (λ os. KeepsFrame script spec base past os a) answers
    (keeps script spec base past
    (c.pass-halt.ensures.stops script spec base past c.code.ensures
    (met_again script spec base past c.args.self _ waiting refl refl c.new.ensures.items c.new-2.ensures.items refl refl))))
    c.stop.ensures.keeps

-- its steps are those since this answer
pub returns-clause-counts : goal.returns-clause-counts
returns-clause-counts c =
    let script = script_of c.args.script.now in
    let answers = c.pass-halt.ensures.answers ∙ ap (map outcome_of) c.one.ensures in
    if_ok _ _ c.stop.result
    (λ a counts spec base past waiting.
    subst (λ os. CountsSteps script spec base (past.answers ++ os) a) answers
    (counts script spec base past
    (c.pass-halt.ensures.stops script spec base past c.code.ensures
    (met_again script spec base past c.args.self _ waiting refl refl c.new.ensures.items c.new-2.ensures.items refl refl))))
    c.stop.ensures.counts
