-- The objects of an attempt's faults: readings that agree on a set read them alike, and a larger set has them.
use Rattle.std.proofs.Common.{◌≡◌, List, [], ◌∷◌, map, refl}
use Rattle.meaning.specs.Values.{Id}
use Rattle.meaning.specs.Readings.{Reading}
use Rattle.event_log.specs.Words.{Lack}

abbrev pub LacksIn : (Id → Type 0) → List Lack → Type 0
LacksIn P [] = Unit {0}
LacksIn P (x ∷ xs) = P x.object × LacksIn P xs

pub lacks_same : (P : Id → Type 0) (r q : Reading) (same : (o : Id) → P o → r o ≡ q o) (xs : List Lack) → LacksIn P xs → map (λ (x : Lack). r x.object) xs ≡ map (λ (x : Lack). q x.object) xs
lacks_same P r q same [] h = refl
lacks_same P r q same (x ∷ xs) h = let e = same x.object h.0 in let f = lacks_same P r q same xs h.1 in cc

pub lacks_more : (P Q : Id → Type 0) (sub : (o : Id) → P o → Q o) (xs : List Lack) → LacksIn P xs → LacksIn Q xs
lacks_more P Q sub [] h = tt
lacks_more P Q sub (x ∷ xs) h = (sub x.object h.0, lacks_more P Q sub xs h.1)
