-- Where no location may be added, none is.
use Rattle.std.proofs.Common.{◌≡◌, ℕ, List, [], ◌∷◌, Bool, true, false, Option, Some, None, refl, sym, ap, ◌∙◌}
use Rattle.std.specs.Prelude.{if◌then◌else◌}
use Rattle.meaning.specs.Values.{Id}
use Rattle.protocol.specs.Locations.{adds_location, adds_location_by, adds_locations}
use Rattle.protocol.specs.Steps.{WorkerContext, changes, object_at}
use Rattle.protocol.specs.Tables.{Object, with_location}
use Rattle.worker_steps.specs.Concerned.{may_locate, may_locate_by}

none_at : (h : WorkerContext) (o : Id) (number n : ℕ) (x : Option Object) → may_locate_by h number x ≡ false → adds_location_by h o number n x ≡ h
none_at h o number n None e = refl
none_at h o number n (Some x) e = ap (λ b. if b then changes h o (with_location n) else h) e

pub none_located : (h : WorkerContext) (o : Id) (number : ℕ) (ns : List ℕ) → may_locate h o number ≡ false → h ≡ adds_locations h o number ns
none_located h o number [] e = refl
none_located h o number (n ∷ ns) e =
    none_located h o number ns e ∙ ap (λ g. adds_locations g o number ns) (sym (none_at h o number n (object_at h o) e))
