use Rattle.std.proofs.Common.{◌≡◌, ◌+◌, sym, ap, ◌∙◌}
use Rattle.step_laws.proofs.JobLaws.{committed_entries, committed_not_noted, committed_noted}
use Rattle.protocol.specs.Events.{objects_made}
use Rattle.number_lists.proofs.Places.{item_there}
use Rattle.cluster_events.specs.Told.{if_taken}
use Rattle.cluster_events.proofs.jobs.commit_outcomes.Goals as goal

-- the worker's part is done, and the job is noted as committed
pub returns-clause-whole : goal.returns-clause-whole
returns-clause-whole c =
    let old = c.args.whole.now in
    let g = c.get.result.now in
    let made = c.in-Some-with_made.made in
    let there = item_there old.jobs c.in-Some.place c.args.job g c.in-Some.ensures.found.0 c.get.ensures in
    let sum : made ≡ old.made + objects_made c.args.outcomes.births = c.in-Some-with_made.ensures.sum ∙ ap (λ o. old.made + objects_made o.births) c.deref.ensures in
    let entries = c.let_act.new.here.there.out.entries in
    c.note_commit.ensures
    ∙ committed_noted old c.let_act.new.whole c.args.job made c.args.outcomes g entries there sum c.in_ok-let_act.ensures.whole
    (sym c.in_ok-let_act.ensures.entries ∙ ap (λ b. if_taken b entries) c.if-not-branch.false)

pub returns-clause-entries : goal.returns-clause-entries
returns-clause-entries c =
    let old = c.args.whole.now in
    let g = c.get.result.now in
    let made = c.in-Some-with_made.made in
    let there = item_there old.jobs c.in-Some.place c.args.job g c.in-Some.ensures.found.0 c.get.ensures in
    let sum : made ≡ old.made + objects_made c.args.outcomes.births = c.in-Some-with_made.ensures.sum ∙ ap (λ o. old.made + objects_made o.births) c.deref.ensures in
    sym (ap (λ b. if_taken b c.let_act.new.here.there.out.entries) c.if-not-branch.false) ∙ c.in_ok-let_act.ensures.entries
    ∙ sym (committed_entries old c.args.job made c.args.outcomes g there sum)

-- a limit would be passed
pub returns-then-not-branch-clause-whole : goal.returns-then-not-branch-clause-whole
returns-then-not-branch-clause-whole c =
    let old = c.args.whole.now in
    let g = c.get.result.now in
    let made = c.in-Some-with_made.made in
    let there = item_there old.jobs c.in-Some.place c.args.job g c.in-Some.ensures.found.0 c.get.ensures in
    let sum : made ≡ old.made + objects_made c.args.outcomes.births = c.in-Some-with_made.ensures.sum ∙ ap (λ o. old.made + objects_made o.births) c.deref.ensures in
    committed_not_noted old c.let_act.new.whole c.args.job made c.args.outcomes g there sum c.in_ok-let_act.ensures.whole
    (sym c.in_ok-let_act.ensures.entries ∙ ap (λ b. if_taken b c.let_act.new.here.there.out.entries) c.if-not-branch.true)

pub returns-then-not-branch-clause-entries : goal.returns-then-not-branch-clause-entries
returns-then-not-branch-clause-entries c =
    let old = c.args.whole.now in
    let g = c.get.result.now in
    let made = c.in-Some-with_made.made in
    let there = item_there old.jobs c.in-Some.place c.args.job g c.in-Some.ensures.found.0 c.get.ensures in
    let sum : made ≡ old.made + objects_made c.args.outcomes.births = c.in-Some-with_made.ensures.sum ∙ ap (λ o. old.made + objects_made o.births) c.deref.ensures in
    sym (ap (λ b. if_taken b c.let_act.new.here.there.out.entries) c.if-not-branch.true) ∙ c.in_ok-let_act.ensures.entries
    ∙ sym (committed_entries old c.args.job made c.args.outcomes g there sum)
