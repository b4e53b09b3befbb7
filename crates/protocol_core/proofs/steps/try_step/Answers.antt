use Rattle.std.proofs.Common.{sym, ap, ◌∙◌, refl, subst}
use Rattle.protocol.specs.Answers.{answer}
use Rattle.segment.specs.Jobs.{IsBegun}
use Rattle.event_answers.specs.declared.verdict.Verdict.TheVariants.{Taken}
use Rattle.protocol_core.specs.Own.{GivesOwn}
use Rattle.protocol_core.specs.Steps.{Accepts, GivesJob}
use Rattle.protocol_core.specs.Steps as told
use Rattle.protocol_core.specs.Views.{state_of}
use Rattle.protocol_core.proofs.Jobs.{have_answers, in_pace}
use Rattle.protocol_core.proofs.Kept.{came, applies, kept_behind, begun_behind, own_behind, tells_job}
use Rattle.protocol_core.proofs.steps.try_step.Goals as goal

pub hand_in-requires-clause-pace : goal.hand_in-requires-clause-pace
hand_in-requires-clause-pace g c =
    in_pace g.S.ScriptName.script (state_of c.args.state.now) c.requires.kept c.requires.goes_on c.runs_are_good.ensures

-- what was done on a job of this run has the log's answers
pub hand_in-requires-clause-own : goal.hand_in-requires-clause-own
hand_in-requires-clause-own g c is_own =
    have_answers g.S.ScriptName.script (state_of c.args.state.now) c.requires.kept c.requires.goes_on c.runs_have_the_logs_answers.ensures c.args.done (c.requires.own is_own)

-- refused, taken, or with a job given out: the run stays sound, since every event keeps that
pub returns-in-Refused-clause-kept : goal.returns-in-Refused-clause-kept
returns-in-Refused-clause-kept g c =
    let script = g.S.ScriptName.script in
    let before = state_of c.args.state.now in
    let after = state_of c.add.new.self in
    let e = c.args.event in
    let h = came script before after e e c.args.seat c.args.done c.hand_in.new.handed c.answer.new.here.there.out.entries c.in_ok-verdict.verdict
    refl c.in_ok-hand_in.ensures.handed c.hand_in.ensures.is_true c.in_ok-verdict.ensures.entries c.in_ok-verdict.ensures.outcome
    c.in_ok-add.ensures.ok (c.add.ensures.whole ∙ c.in_ok-verdict.ensures.whole) c.add.ensures.nodes (c.add.ensures.halted ∙ c.requires.goes_on) in
    kept_behind script before after e c.args.seat c.args.done c.in_ok-verdict.verdict c.requires.kept c.requires.goes_on c.event_keeps_sound.ensures c.sound_is_legal.ensures h

pub returns-in-Taken-None-clause-kept : goal.returns-in-Taken-None-clause-kept
returns-in-Taken-None-clause-kept g c =
    let script = g.S.ScriptName.script in
    let before = state_of c.args.state.now in
    let after = state_of c.add.new.self in
    let e = c.args.event in
    let h = came script before after e e c.args.seat c.args.done c.hand_in.new.handed c.answer.new.here.there.out.entries c.in_ok-verdict.verdict
    refl c.in_ok-hand_in.ensures.handed c.hand_in.ensures.is_true c.in_ok-verdict.ensures.entries c.in_ok-verdict.ensures.outcome
    c.in_ok-add.ensures.ok (c.add.ensures.whole ∙ c.in_ok-verdict.ensures.whole) c.add.ensures.nodes (c.add.ensures.halted ∙ c.requires.goes_on) in
    kept_behind script before after e c.args.seat c.args.done c.in_ok-verdict.verdict c.requires.kept c.requires.goes_on c.event_keeps_sound.ensures c.sound_is_legal.ensures h

pub returns-clause-kept : goal.returns-clause-kept
returns-clause-kept g c =
    let script = g.S.ScriptName.script in
    let before = state_of c.args.state.now in
    let after = state_of c.add.new.self in
    let e = c.args.event in
    let h = came script before after e e c.args.seat c.args.done c.hand_in.new.handed c.answer.new.here.there.out.entries c.in_ok-verdict.verdict
    refl c.in_ok-hand_in.ensures.handed c.hand_in.ensures.is_true c.in_ok-verdict.ensures.entries c.in_ok-verdict.ensures.outcome
    c.in_ok-add.ensures.ok (c.add.ensures.whole ∙ c.in_ok-verdict.ensures.whole) c.add.ensures.nodes (c.add.ensures.halted ∙ c.requires.goes_on) in
    kept_behind script before after e c.args.seat c.args.done c.in_ok-verdict.verdict c.requires.kept c.requires.goes_on c.event_keeps_sound.ensures c.sound_is_legal.ensures h

-- the parts that are given out make a job of this script
pub new-requires : goal.new-requires
new-requires g c =
    let script = g.S.ScriptName.script in
    let before = state_of c.args.state.now in
    let after = state_of c.add.new.self in
    let e = c.args.event in
    let h = came script before after e e c.args.seat c.args.done c.hand_in.new.handed c.answer.new.here.there.out.entries c.in_ok-verdict.verdict
    refl c.in_ok-hand_in.ensures.handed c.hand_in.ensures.is_true c.in_ok-verdict.ensures.entries c.in_ok-verdict.ensures.outcome
    c.in_ok-add.ensures.ok (c.add.ensures.whole ∙ c.in_ok-verdict.ensures.whole) c.add.ensures.nodes (c.add.ensures.halted ∙ c.requires.goes_on) in
    let job = c.in-Taken-Some.job in
    let gives = c.in-Taken-Some.is ∙ ap (λ x. Taken x) c.in-Taken-Some.field-0-is in
    let begun = begun_behind script before after e c.args.seat c.args.done c.in_ok-verdict.verdict c.requires.kept c.requires.goes_on c.claims_give_good_jobs.ensures h job gives in
    subst (λ j. IsBegun script j) (sym c.job.view_is) begun

-- that job is what the event comes to
pub returns-clause-applied : goal.returns-clause-applied
returns-clause-applied g c =
    let script = g.S.ScriptName.script in
    let before = state_of c.args.state.now in
    let after = state_of c.add.new.self in
    let e = c.args.event in
    let h = came script before after e e c.args.seat c.args.done c.hand_in.new.handed c.answer.new.here.there.out.entries c.in_ok-verdict.verdict
    refl c.in_ok-hand_in.ensures.handed c.hand_in.ensures.is_true c.in_ok-verdict.ensures.entries c.in_ok-verdict.ensures.outcome
    c.in_ok-add.ensures.ok (c.add.ensures.whole ∙ c.in_ok-verdict.ensures.whole) c.add.ensures.nodes (c.add.ensures.halted ∙ c.requires.goes_on) in
    let job = c.in-Taken-Some.job in
    let gives = c.in-Taken-Some.is ∙ ap (λ x. Taken x) c.in-Taken-Some.field-0-is in
    let tells = tells_job _ job (sym h.outcome_is ∙ gives) in
    applies script before after e c.args.seat c.args.done c.in_ok-verdict.verdict (GivesJob c.new.result) h (subst (λ j. told.Tells (answer before.whole e h.handed) (GivesJob j)) (sym (c.new.ensures ∙ c.job.view_is)) tells)

-- and its answers begin what the log has of answers to its attempt
pub returns-clause-own : goal.returns-clause-own
returns-clause-own g c =
    let script = g.S.ScriptName.script in
    let before = state_of c.args.state.now in
    let after = state_of c.add.new.self in
    let e = c.args.event in
    let h = came script before after e e c.args.seat c.args.done c.hand_in.new.handed c.answer.new.here.there.out.entries c.in_ok-verdict.verdict
    refl c.in_ok-hand_in.ensures.handed c.hand_in.ensures.is_true c.in_ok-verdict.ensures.entries c.in_ok-verdict.ensures.outcome
    c.in_ok-add.ensures.ok (c.add.ensures.whole ∙ c.in_ok-verdict.ensures.whole) c.add.ensures.nodes (c.add.ensures.halted ∙ c.requires.goes_on) in
    let job = c.in-Taken-Some.job in
    let gives = c.in-Taken-Some.is ∙ ap (λ x. Taken x) c.in-Taken-Some.field-0-is in
    let own = own_behind script before after e c.args.seat c.args.done c.in_ok-verdict.verdict c.requires.kept c.requires.goes_on
    c.claims_give_jobs_of_the_log.ensures c.jobs_stay_of_the_log.ensures h job gives in
    subst (λ j. GivesOwn after.log (GivesJob j)) (sym (c.new.ensures ∙ c.job.view_is)) own
