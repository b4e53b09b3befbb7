use Rattle.std.proofs.Common.{◌≡◌, ◌∙◌, ap, MatchOption, None, Some, subst, sym}
use Rattle.std.specs.List.{find}
use Rattle.protocol_data.specs.Shelves.{copies_on, is_sought}
use Rattle.protocol_data.proofs.Shelving.{found_first, found_further}
use Rattle.protocol_data.proofs.copies.Copies.find.Goals as goal

pub returns-in-Some : goal.returns-in-Some
returns-in-Some c =
    let p = is_sought c.args.object c.args.number in
    ap (find p) (sym c.self.view_is) ∙ found_first p (copies_on c.self.inside.shelves) c.self.inside.last.rows c.in-Some.copy.now c.in-Some.ensures

pub returns : goal.returns
returns c =
    let p = is_sought c.args.object c.args.number in
    subst (λ f. MatchOption c.find_here.result (f ≡ None) (λ x. f ≡ Some x.now))
    (sym (ap (find p) (sym c.self.view_is) ∙ found_further p (copies_on c.self.inside.shelves) c.self.inside.last.rows c.in_default.ensures)) c.find_here.ensures
