use Rattle.std.proofs.Common.{◌≢◌, [], ◌∷◌, inl, refl, rules}
use Rattle.raysim_files.proofs.Paths.{behind_slash, no_slash, none_before, some_before}
use Rattle.raysim_files.proofs.place.split.Goals as goal

pub returns-in-Some-empty-default : goal.returns-in-Some-empty-default
returns-in-Some-empty-default c =
    let p = c.in-Some-empty-default.ensures.cases in
    behind_slash c.args.path.now c.in-Some-empty-default.field-0-0.now c.in-Some-empty-default.name.now (47 ∷ []) p.0 p.1 p.2.1 p.2.0 p.3 p.4
    (none_before c.in-Some-empty-default.field-0-0.now c.in-Some-empty-default.is-empty)

pub returns-in-Some : goal.returns-in-Some
returns-in-Some c =
    let p = c.in-Some.ensures.cases in
    let some : c.in-Some.folder.now ≢ [] = search rules in
    behind_slash c.args.path.now c.in-Some.folder.now c.in-Some.name.now c.in-Some.folder.now p.0 p.1 p.2.1 p.2.0 p.3 p.4
    (some_before c.in-Some.folder.now some)

pub returns-in-None : goal.returns-in-None
returns-in-None c = inl (no_slash c.args.path.now c.in-None.ensures.cases, refl, refl)
