-- What a run did on its answers stays as further answers come in.
use Rattle.std.proofs.Common.{ℕ, List, [], ◌∷◌, ◌++◌, refl}
use Rattle.meaning.specs.Values.{Id, Outcome, Val, Trapped}
use Rattle.meaning.specs.Runs.{Run, Ends, Prints, Bears, Gets, piece, named, behind}
use Rattle.segment.specs.Growth.{GrowsTo}

pub runs_grow : (n : ℕ) (run : Run) (base : Id) (cs ds : List Outcome) → GrowsTo (piece n run base cs) (piece n run base (cs ++ ds))
runs_grow n (Ends e) base cs ds = record { births = tt; prints = tt }
runs_grow n (Prints v next) base cs ds =
    let r = runs_grow n next base cs ds in
    record { births = r.births; prints = (refl, r.prints) }
runs_grow n (Bears b made_by next) base cs ds =
    let r = runs_grow n (next (named base b)) (behind base b) cs ds in
    record { births = (refl, r.births); prints = r.prints }
runs_grow n (Gets t r next) base [] ds = record { births = tt; prints = tt }
runs_grow n (Gets t r next) base (Val v ∷ cs) ds = runs_grow n (next v) base cs ds
runs_grow n (Gets t r next) base (Trapped e ∷ cs) ds = record { births = tt; prints = tt }
