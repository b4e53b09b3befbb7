-- Beginnings of what a trace gets and prints.
use Rattle.std.proofs.Common.{◌≡◌, ℕ, zero, suc, List, [], ◌∷◌, ◌++◌, length, map, Option, Some, None, refl, ap}
use Rattle.meaning.specs.Lists.{IsFirst}
use Rattle.meaning.specs.Values.{Value, Outcome}
use Rattle.meaning.specs.Runs.{Item, TraceBirth, TraceGet, TracePrint}
use Rattle.meaning.specs.Readings.{Reading, read_outcome}
use Rattle.meaning.specs.Law.{gets_of, prints_of, up_to, get_after}
use Rattle.event_log.specs.Words.{Lack, Content, Lacking}
use Rattle.event_log.specs.Serial.{AnswersBegin}

pub first_more : (cs : List Outcome) (items : List Item) (d : Outcome) → IsFirst cs (gets_of items) → get_after (length cs) items ≡ Some d → IsFirst (cs ++ d ∷ []) (gets_of items)
first_more cs [] d h e = absurd (cc)
first_more cs (TraceBirth b ∷ items) d h e = first_more cs items d h e
first_more cs (TracePrint v ∷ items) d h e = first_more cs items d h e
first_more [] (TraceGet c ∷ items) d h e = (cc, tt)
first_more (a ∷ cs) (TraceGet c ∷ items) d h e = (h.0, first_more cs items d h.1 e)

pub whole_gets : (cs : List Outcome) (items : List Item) → IsFirst cs (gets_of items) → get_after (length cs) items ≡ None → gets_of items ≡ cs
whole_gets [] [] h e = refl
whole_gets (a ∷ cs) [] h e = absurd h
whole_gets cs (TraceBirth b ∷ items) h e = whole_gets cs items h e
whole_gets cs (TracePrint v ∷ items) h e = whole_gets cs items h e
whole_gets [] (TraceGet c ∷ items) h e = absurd (cc)
whole_gets (a ∷ cs) (TraceGet c ∷ items) h e = let f = whole_gets cs items h.1 e in let g = h.0 in cc

pub whole_trace : (n : ℕ) (items : List Item) → get_after n items ≡ None → up_to n items ≡ items
whole_trace n [] e = refl
whole_trace n (TraceBirth b ∷ items) e = ap (λ is. TraceBirth b ∷ is) (whole_trace n items e)
whole_trace n (TracePrint v ∷ items) e = ap (λ is. TracePrint v ∷ is) (whole_trace n items e)
whole_trace zero (TraceGet c ∷ items) e = absurd (cc)
whole_trace (suc n) (TraceGet c ∷ items) e = ap (λ is. TraceGet c ∷ is) (whole_trace n items e)

pub prints_further : (xs : List Value) (n : ℕ) (items : List Item) → IsFirst xs (prints_of (up_to n items)) → IsFirst xs (prints_of items)
prints_further [] n items h = tt
prints_further (x ∷ xs) n [] h = absurd h
prints_further (x ∷ xs) n (TraceBirth b ∷ items) h = prints_further (x ∷ xs) n items h
prints_further (x ∷ xs) n (TracePrint v ∷ items) h = (h.0, prints_further xs n items h.1)
prints_further (x ∷ xs) zero (TraceGet c ∷ items) h = absurd h
prints_further (x ∷ xs) (suc n) (TraceGet c ∷ items) h = prints_further (x ∷ xs) n items h

pub map_first : {X Y : Type 0} (f : X → Y) (xs ys : List X) → IsFirst xs ys → IsFirst (map f xs) (map f ys)
map_first f [] ys h = tt
map_first f (x ∷ xs) [] h = h
map_first f (x ∷ xs) (y ∷ ys) h = (ap f h.0, map_first f xs ys h.1)

-- at most one fault, for what is got next
abbrev pub FaultsFit : Option Outcome → List Outcome → Type 0
FaultsFit next [] = Unit {0}
FaultsFit next (d ∷ []) = next ≡ Some d
FaultsFit next (d ∷ e ∷ ds) = ⊥

last_lack : (reading : Reading) (x : Lack) (items : List Item) → get_after zero items ≡ Some (reading x.object) → AnswersBegin reading (Lacking x ∷ []) (gets_of items)
last_lack reading x [] e = absurd (cc)
last_lack reading x (TraceBirth b ∷ items) e = last_lack reading x items e
last_lack reading x (TracePrint v ∷ items) e = last_lack reading x items e
last_lack reading x (TraceGet c ∷ items) e = (cc, refl)

pub answers_begin : (reading : Reading) (cs : List Outcome) (xs : List Lack) (items : List Item) → IsFirst (map (read_outcome reading) cs) (gets_of items) →
    FaultsFit (get_after (length (map (read_outcome reading) cs)) items) (map (λ (x : Lack). reading x.object) xs) → AnswersBegin reading (map Content cs ++ map Lacking xs) (gets_of items)
answers_begin reading [] [] items h f = tt
answers_begin reading [] (x ∷ []) items h f = last_lack reading x items f
answers_begin reading [] (x ∷ y ∷ xs) items h f = absurd f
answers_begin reading (c ∷ cs) xs [] h f = absurd h
answers_begin reading (c ∷ cs) xs (TraceBirth b ∷ items) h f = answers_begin reading (c ∷ cs) xs items h f
answers_begin reading (c ∷ cs) xs (TracePrint v ∷ items) h f = answers_begin reading (c ∷ cs) xs items h f
answers_begin reading (c ∷ cs) xs (TraceGet d ∷ items) h f = (h.0, answers_begin reading cs xs items h.1 f)

pub none_after : (items : List Item) → get_after (length (gets_of items)) items ≡ None
none_after [] = refl
none_after (TraceBirth b ∷ items) = none_after items
none_after (TracePrint v ∷ items) = none_after items
none_after (TraceGet c ∷ items) = none_after items
