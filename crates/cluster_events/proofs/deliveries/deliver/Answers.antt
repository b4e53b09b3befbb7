use Rattle.std.proofs.Common.{◌≡◌, ◌<◌, ◌⊎◌, OnOk, IfOk, None, length, sym, ap, ◌∙◌, subst, arith}
use Rattle.step_laws.specs.Limits.{entries_limited, whole_limited}
use Rattle.step_laws.proofs.MarkLaws.{delivered_entries, delivered_marked, delivered_not_marked, unmarked}
use Rattle.protocol.specs.Numbered.{item_at}
use Rattle.number_lists.proofs.Places.{no_item}
use Rattle.cluster_events.specs.Told.{if_taken}
use Rattle.cluster_events.proofs.deliveries.deliver.Goals as goal

-- there is no mark for the message
pub returns-in_default-place_of-clause-whole : goal.returns-in_default-place_of-clause-whole
returns-in_default-place_of-clause-whole c =
    let old = c.args.whole.now in
    let l = c.in-Some.envelope.now in
    let none : item_at old.delivered c.args.number ≡ None = no_item old.delivered c.args.number (subst (λ n. (c.args.number ≡ 0) ⊎ (n < c.args.number)) c.len.ensures c.in_default-place_of.ensures.none) in
    subst (λ m. OnOk c.hand_over.result (c.hand_over.new.whole ≡ whole_limited old m)) (sym (unmarked old c.args.number l none c.in-Some.ensures))
    (c.hand_over.ensures.whole l c.in-Some.ensures)

pub returns-in_default-place_of-clause-entries : goal.returns-in_default-place_of-clause-entries
returns-in_default-place_of-clause-entries c =
    let old = c.args.whole.now in
    let l = c.in-Some.envelope.now in
    let none : item_at old.delivered c.args.number ≡ None = no_item old.delivered c.args.number (subst (λ n. (c.args.number ≡ 0) ⊎ (n < c.args.number)) c.len.ensures c.in_default-place_of.ensures.none) in
    subst (λ m. IfOk c.hand_over.result (λ taken. if_taken taken c.hand_over.new.here.there.out.entries ≡ entries_limited m))
    (sym (unmarked old c.args.number l none c.in-Some.ensures)) (c.hand_over.ensures.entries l c.in-Some.ensures)

-- it isn't taken
pub returns-then-not-branch-clause-whole : goal.returns-then-not-branch-clause-whole
returns-then-not-branch-clause-whole c =
    let old = c.args.whole.now in
    let l = c.in-Some.envelope.now in
    let there = c.in-Some.ensures in
    let place = c.in-Some-place_of.ensures.found in
    let less : c.in-Some-place_of.place < length old.delivered = omega (arith, place.1, c.len.ensures) in
    let entries = c.hand_over-2.new.here.there.out.entries in
    delivered_not_marked old c.hand_over-2.new.whole c.in-Some-place_of.place c.args.number l less place.0 there (c.in_ok-hand_over.ensures.whole l there)
    (sym (c.in_ok-hand_over.ensures.entries l there) ∙ ap (λ b. if_taken b entries) c.if-not-branch.true)

pub returns-then-not-branch-clause-entries : goal.returns-then-not-branch-clause-entries
returns-then-not-branch-clause-entries c =
    let old = c.args.whole.now in
    let l = c.in-Some.envelope.now in
    let there = c.in-Some.ensures in
    let place = c.in-Some-place_of.ensures.found in
    let less : c.in-Some-place_of.place < length old.delivered = omega (arith, place.1, c.len.ensures) in
    let entries = c.hand_over-2.new.here.there.out.entries in
    sym (ap (λ b. if_taken b entries) c.if-not-branch.true) ∙ c.in_ok-hand_over.ensures.entries l there
    ∙ sym (delivered_entries old c.in-Some-place_of.place c.args.number l less place.0 there)

-- it is taken, and marked as delivered
pub returns-clause-whole : goal.returns-clause-whole
returns-clause-whole c =
    let old = c.args.whole.now in
    let l = c.in-Some.envelope.now in
    let there = c.in-Some.ensures in
    let place = c.in-Some-place_of.ensures.found in
    let less : c.in-Some-place_of.place < length old.delivered = omega (arith, place.1, c.len.ensures) in
    let entries = c.hand_over-2.new.here.there.out.entries in
    c.mark.ensures
    ∙ delivered_marked old c.hand_over-2.new.whole c.in-Some-place_of.place c.args.number l entries less place.0 there (c.in_ok-hand_over.ensures.whole l there)
    (sym (c.in_ok-hand_over.ensures.entries l there) ∙ ap (λ b. if_taken b entries) c.if-not-branch.false)

pub returns-clause-entries : goal.returns-clause-entries
returns-clause-entries c =
    let old = c.args.whole.now in
    let l = c.in-Some.envelope.now in
    let there = c.in-Some.ensures in
    let place = c.in-Some-place_of.ensures.found in
    let less : c.in-Some-place_of.place < length old.delivered = omega (arith, place.1, c.len.ensures) in
    let entries = c.hand_over-2.new.here.there.out.entries in
    sym (ap (λ b. if_taken b entries) c.if-not-branch.false) ∙ c.in_ok-hand_over.ensures.entries l there
    ∙ sym (delivered_entries old c.in-Some-place_of.place c.args.number l less place.0 there)
