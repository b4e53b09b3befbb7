use Rattle.std.proofs.Common.{◌≡◌, OnOk, ap, subst, sym, ◌∙◌}
use Rattle.std.specs.Prelude.{IfOk}
use Rattle.protocol.specs.Sets.{without_number}
use Rattle.protocol.specs.Tables.{without_location}
use Rattle.protocol.specs.Steps.{changes}
use Rattle.protocol.specs.Locations.{looks_elsewhere}
use Rattle.owner_steps.proofs.needs.look_past.Goals as goal

pub returns-clause-done : goal.returns-clause-done
returns-clause-done c = λ x e f.
    let h = c.args.here.now in
    let o = c.args.object in
    let n = c.deref.result.now.node in
    let copied = subst (λ r. IfOk r (λ ns. ns ≡ c.args.locations.now)) (sym c.in_ok-others.ensures.told) c.copy.ensures in
    let p = ap (λ ns. without_number ns n) (f ∙ sym copied) ∙ sym c.remove_node.ensures in
    subst (λ w. OnOk c.look_elsewhere.result (c.look_elsewhere.new.here ≡ looks_elsewhere (changes h o (without_location w.node)) o (without_location w.node x))) c.deref.ensures
    (subst (λ g. OnOk c.look_elsewhere.result (c.look_elsewhere.new.here ≡ looks_elsewhere g o (without_location n x))) (c.in_ok-others.ensures.done ∙ c.remove_location.ensures)
    (c.look_elsewhere.ensures.done (without_location n x) e p))
