use Rattle.std.proofs.Common.{◌≡◌, OnOk, None, ap, subst, sym, ◌∙◌}
use Rattle.std.specs.Prelude.{IfNone, IfOk}
use Rattle.protocol.specs.Stores.{copy_in}
use Rattle.protocol.specs.Steps.{with_store}
use Rattle.protocol.specs.Locations.{looks_here_by}
use Rattle.owner_steps.proofs.needs.look_here.Goals as goal

pub returns-in_default-clause-done : goal.returns-in_default-clause-done
returns-in_default-clause-done c = λ x e f.
    let h = c.args.here.now in
    let o = c.args.object in
    let store = h.there.node.store in
    let got = c.get-found in
    let lent = c.deref_mut.result.now in
    let told = sym c.in_ok-content.ensures.told in
    let content = subst (λ r. IfOk r (λ k. k ≡ copy_in lent.store o c.args.number)) told got.ensures.content in
    let untouched = subst (λ r. IfOk r (λ k. IfNone k (got.new.store ≡ lent.store))) told got.ensures.none in
    let none = ap (copy_in store o) e ∙ ap (λ n. copy_in n.store o c.args.number) (sym c.deref_mut.ensures.value) ∙ sym content ∙ c.in_default.is in
    let still = subst (λ r. IfNone r (got.new.store ≡ lent.store)) c.in_default.is untouched ∙ ap (λ n. n.store) c.deref_mut.ensures.value in
    subst (λ r. OnOk c.look_past.result (c.look_past.new.here ≡ looks_here_by h o x r)) (sym none)
    (subst (λ s. OnOk c.look_past.result (c.look_past.new.here ≡ looks_here_by (with_store h s) o x None)) still
    (subst (λ d. OnOk c.look_past.result (c.look_past.new.here ≡ looks_here_by (record h { there = record h.there { node = record d { store = got.new.store } } }) o x None)) c.deref_mut.ensures.value
    (subst (λ g. OnOk c.look_past.result (c.look_past.new.here ≡ looks_here_by g o x None)) c.in_ok-content.ensures.done (c.look_past.ensures.done x e f))))
