use Rattle.std.proofs.Common.{◌∙◌, ap, drop, length, map, sym}
use Rattle.values.specs.Values.{content_of}
use Rattle.task_spec.specs.Births.{birth_of}
use Rattle.evaluation.specs.of_script_check.Trees.{script_of}
use Rattle.held.specs.Stops.{stop_of}
use Rattle.held.specs.declared.outcomes.Outcomes.{Outcomes}
use Rattle.evaluation.specs.Pieces.{piece_of}
use Rattle.segment.specs.Jobs.{JobParts, replay_of}
use Rattle.segment.proofs.Beyond.{beyond_made, made, replayed_as}
use Rattle.segment.proofs.runs.run_again.Goals as goal

-- the births are left first, then the prints; where it stops stays
pub returns-clause-beyond : goal.returns-clause-beyond
returns-clause-beyond c =
    let p = c.in_ok-piece.piece in
    let j = c.args.job.now in
    let script = script_of c.args.script.now in
    let bs = c.deref_mut-2.result.now.births in
    let vs = c.leave_after-2.new.all in
    let first = c.deref_mut.ensures.value in
    let then = c.deref_mut-2.ensures.value in
    ap (λ (o : Outcomes). made bs vs (stop_of o.stop)) then
    ∙ ap (λ (o : Outcomes). made bs vs (stop_of o.stop)) first
    ∙ beyond_made j p (replay_of script j) bs vs
    (replayed_as script _ j (piece_of p) (birth_of c.deref.result.now) (map content_of c.as_slice.result.now) c.job.view_is (ap birth_of c.deref.ensures)
    (sym c.as_slice.ensures) c.in_ok-piece.ensures.replayed)
    (ap (λ (o : Outcomes). o.births) then ∙ c.in_ok-leave_after.ensures
    ∙ ap (λ (o : Outcomes). drop c.len.result o.births) first
    ∙ ap (λ n. drop n p.outcomes.births) (c.len.ensures ∙ ap (λ (x : JobParts). length x.births) c.job.view_is))
    (c.in_ok-leave_after-2.ensures ∙ ap (λ (o : Outcomes). drop c.len-2.result o.prints) then
    ∙ ap (λ (o : Outcomes). drop c.len-2.result o.prints) first
    ∙ ap (λ n. drop n p.outcomes.prints) (c.len-2.ensures ∙ ap (λ (x : JobParts). length x.prints) c.job.view_is))
