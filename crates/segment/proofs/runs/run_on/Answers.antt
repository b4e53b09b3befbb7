use Rattle.std.proofs.Common.{◌≡◌, IfSome, [], ◌∷◌, ◌++◌, map, sym, ap, ◌∙◌, subst}
use Rattle.meaning.specs.Meaning.{replay}
use Rattle.evaluation.specs.of_script_check.Trees.{script_of}
use Rattle.values.specs.Values.{content_of}
use Rattle.frame_laws.specs.Steps.{HasSteps}
use Rattle.evaluation.specs.of_frames.Frames.{IsWaiting}
use Rattle.evaluation.proofs.of_frames.Doing.{if_ok, on_err}
use Rattle.evaluation.specs.Pieces.{IsBrokenStop}
use Rattle.evaluation.proofs.Standing.{both_ok}
use Rattle.evaluation.proofs.TaskRuns.{plain_contents}
use Rattle.segment.specs.Jobs.{replay_of, whole_of}
use Rattle.segment.specs.Frames.{Fits, before_of}
use Rattle.segment.specs.Pieces.{done_of}
use Rattle.segment.proofs.Beyond.{whole_made}
use Rattle.segment.proofs.Lasts.{map_last, waits_last}
use Rattle.segment.proofs.runs.run_on.Goals as goal

-- without a frame the task is run again from its beginning, and what goes beyond the job is what was done on it
pub returns-in_default-clause-whole : goal.returns-in_default-clause-whole
returns-in_default-clause-whole c =
    let j = c.args.job.now in
    if_ok _ _ c.run_again.result
    (λ p is. whole_made j p (replay_of (script_of c.args.script.now) j) c.requires.begun.births c.requires.begun.prints is) c.run_again.ensures.beyond

-- and where it waits, it waits for the next answer
pub returns-in_default-clause-waits : goal.returns-in_default-clause-waits
returns-in_default-clause-waits c =
    let j = c.args.job.now in
    both_ok _ _ _ c.run_again.result
    (λ p is waits. waits (whole_made j p (replay_of (script_of c.args.script.now) j) c.requires.begun.births c.requires.begun.prints is))
    c.run_again.ensures.beyond c.run_again.ensures.waits

-- with a frame it goes on with the last answer, and before that stands what the job had
pub returns-clause-whole : goal.returns-clause-whole
returns-clause-whole c =
    let j = c.args.job.now in
    let script = script_of c.args.script.now in
    let rest = map content_of c.in-Some-split_last.field-0-1.now in
    let answer = content_of c.in-Some-split_last.answer.now in
    let items : map content_of c.as_slice.result.now ≡ j.answers = sym c.as_slice.ensures in
    let last : j.answers ≡ rest ++ answer ∷ [] =
    sym items ∙ ap (map content_of) c.in-Some-split_last.ensures.cases.0 ∙ map_last content_of c.in-Some-split_last.field-0-1.now c.in-Some-split_last.answer.now in
    let kept = subst (λ f. IfSome f (λ b. Fits script j b.value)) c.in-Some.is c.requires.fits in
    let fits : Fits script j c.into_inner.result = subst (Fits script j) (sym c.into_inner.ensures) kept in
    let waits = waits_last script j c.into_inner.result rest answer last fits in
    if_ok _ _ c.go_on.result
    (λ p replayed. ap (replay script j.spec j.base) last
    ∙ sym (replayed j.spec j.base (before_of j rest) (sym c.others.ensures) waits))
    c.go_on.ensures.replayed

-- it is broken only where the replay on all answers is
pub returns-clause-broken : goal.returns-clause-broken
returns-clause-broken c =
    let j = c.args.job.now in
    let script = script_of c.args.script.now in
    let rest = map content_of c.in-Some-split_last.field-0-1.now in
    let answer = content_of c.in-Some-split_last.answer.now in
    let items : map content_of c.as_slice.result.now ≡ j.answers = sym c.as_slice.ensures in
    let last : j.answers ≡ rest ++ answer ∷ [] =
    sym items ∙ ap (map content_of) c.in-Some-split_last.ensures.cases.0 ∙ map_last content_of c.in-Some-split_last.field-0-1.now c.in-Some-split_last.answer.now in
    let kept = subst (λ f. IfSome f (λ b. Fits script j b.value)) c.in-Some.is c.requires.fits in
    let fits : Fits script j c.into_inner.result = subst (Fits script j) (sym c.into_inner.ensures) kept in
    let waits = waits_last script j c.into_inner.result rest answer last fits in
    on_err _ _ c.go_on.result
    (λ e broken is. subst (λ cs. IsBrokenStop (replay script j.spec j.base cs).stop) (sym last)
    (broken is j.spec j.base (before_of j rest) (sym c.others.ensures)
    c.attest_spec.ensures
    (plain_contents c.in-Some-split_last.field-0-1.now) waits))
    c.go_on.ensures.broken

pub returns-clause-waits : goal.returns-clause-waits
returns-clause-waits c =
    let j = c.args.job.now in
    let script = script_of c.args.script.now in
    let rest = map content_of c.in-Some-split_last.field-0-1.now in
    let answer = content_of c.in-Some-split_last.answer.now in
    let items : map content_of c.as_slice.result.now ≡ j.answers = sym c.as_slice.ensures in
    let last : j.answers ≡ rest ++ answer ∷ [] =
    sym items ∙ ap (map content_of) c.in-Some-split_last.ensures.cases.0 ∙ map_last content_of c.in-Some-split_last.field-0-1.now c.in-Some-split_last.answer.now in
    let kept = subst (λ f. IfSome f (λ b. Fits script j b.value)) c.in-Some.is c.requires.fits in
    let fits : Fits script j c.into_inner.result = subst (Fits script j) (sym c.into_inner.ensures) kept in
    let waits = waits_last script j c.into_inner.result rest answer last fits in
    if_ok _ _ c.go_on.result
    (λ p keeps. subst (λ cs. IfSome p.frame (λ f. IsWaiting script j.spec j.base
    (record { answers = cs; births = (whole_of (done_of j p)).births; prints = (whole_of (done_of j p)).prints }) f.value))
    (sym last) (keeps j.spec j.base (before_of j rest) waits))
    c.go_on.ensures.keeps

pub returns-clause-counts : goal.returns-clause-counts
returns-clause-counts c =
    let j = c.args.job.now in
    let script = script_of c.args.script.now in
    let rest = map content_of c.in-Some-split_last.field-0-1.now in
    let answer = content_of c.in-Some-split_last.answer.now in
    let items : map content_of c.as_slice.result.now ≡ j.answers = sym c.as_slice.ensures in
    let last : j.answers ≡ rest ++ answer ∷ [] =
    sym items ∙ ap (map content_of) c.in-Some-split_last.ensures.cases.0 ∙ map_last content_of c.in-Some-split_last.field-0-1.now c.in-Some-split_last.answer.now in
    let kept = subst (λ f. IfSome f (λ b. Fits script j b.value)) c.in-Some.is c.requires.fits in
    let fits : Fits script j c.into_inner.result = subst (Fits script j) (sym c.into_inner.ensures) kept in
    let waits = waits_last script j c.into_inner.result rest answer last fits in
    if_ok _ _ c.go_on.result
    (λ p counts. subst (λ cs. HasSteps script j.spec j.base cs p.steps) (sym last)
    (counts j.spec j.base (before_of j rest) (sym c.others.ensures) waits))
    c.go_on.ensures.counts
