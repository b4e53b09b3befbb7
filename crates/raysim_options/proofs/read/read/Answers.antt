use Rattle.std.proofs.Common.{◌≡◌, Bool, List, [], ◌∷◌, true, false, refl, sym}
use Rattle.std.specs.List.{AllByRecursion}
use Rattle.std.specs.Str.{bytes_eq}
use Rattle.std.proofs.lemmas.Slice.Eq.{bytes_eq-Decides}
use Rattle.clap.specs.Words.{Row, Shape, Text, found_of, rows_of}
use Rattle.raysim_options.specs.App.{raysim_app}
use Rattle.raysim_options.specs.Meets.{MeetsAll, MeetsNamed, MeetsOne}
use Rattle.raysim_options.proofs.read.read.Goals as goal

other_name : (b : Bool) (s : Shape) (subs : List Shape) (name : Text) (rows : List Row) → bytes_eq s.name name ≡ b → (name ≡ s.name → ⊥) → (MeetsOne subs name rows → ⊥)
    → MeetsNamed b (MeetsAll s.rules rows) (MeetsOne subs name rows) → ⊥
other_name true s subs name rows e other later h = other (sym ((bytes_eq-Decides s.name name).0 e))
other_name false s subs name rows e other later h = later h

-- the name is one of the subcommands'
none_named : (subs : List Shape) (name : Text) (rows : List Row) → AllByRecursion (λ s. name ≡ s.name → ⊥) subs → MeetsOne subs name rows → ⊥
none_named [] name rows others h = h
none_named (s ∷ subs) name rows others h = other_name (bytes_eq s.name name) s subs name rows refl others.0 (λ k. none_named subs name rows others.1 k) h

pub unreachable-requires : goal.unreachable-requires
unreachable-requires c =
    let others = c.in_default in
    let name = c.args.name.now in
    none_named raysim_app.subs name (rows_of (found_of c.args.matches.now))
    (others.not-check, (others.not-serial, (others.not-sim, (others.not-run, (others.not-log, (others.not-why, (others.not-faults, (others.not-migrate, (others.not-explain, (others.not-export, (others.not-state, tt))))))))))) c.requires
