-- Two readings that agree on a set of ids read alike whatever has only ids of the set; and a larger set has what a smaller has.
use Rattle.std.proofs.Common.{◌≡◌, Bool, List, [], ◌∷◌, map, refl, ap}
use Rattle.meaning.specs.Values.{Value, Int, Items, Named, Known, Values, none, more, Outcome, Val, Trapped, Argument, Birth, Put, Task, Id}
use Rattle.meaning.specs.Readings.{Reading, read, read_items, read_outcome, read_argument, read_birth}
use Rattle.meaning.specs.Ids.{ValueIn, ItemsIn, OutcomeIn, ArgumentsIn, BirthIn, OutcomesIn, ValuesIn}

module _ (P : Id → Type 0) (r q : Reading) (same : (o : Id) → P o → r o ≡ q o) where
  mutual
    pub value_same : (v : Value) → ValueIn P v → read r v ≡ read q v
    value_same (Int n) h = refl
    value_same (Items vs) h = ap (λ ws. Items ws) (items_same vs h)
    value_same (Named o) h = ap (λ c. Known c) (same o h)
    value_same (Known c) h = refl

    items_same : (vs : Values) → ItemsIn P vs → read_items r vs ≡ read_items q vs
    items_same none h = refl
    items_same (more v vs) h = let e = value_same v h.0 in let f = items_same vs h.1 in cc

  pub outcome_same : (c : Outcome) → OutcomeIn P c → read_outcome r c ≡ read_outcome q c
  outcome_same (Val v) h = ap (λ w. Val w) (value_same v h)
  outcome_same (Trapped t) h = refl

  pub outcomes_same : (cs : List Outcome) → OutcomesIn P cs → map (read_outcome r) cs ≡ map (read_outcome q) cs
  outcomes_same [] h = refl
  outcomes_same (c ∷ cs) h = let e = outcome_same c h.0 in let f = outcomes_same cs h.1 in cc

  pub values_same : (vs : List Value) → ValuesIn P vs → map (read r) vs ≡ map (read q) vs
  values_same [] h = refl
  values_same (v ∷ vs) h = let e = value_same v h.0 in let f = values_same vs h.1 in cc

  argument_parts : (v w : Value) (m : Bool) → v ≡ w → ◌≡◌ {A = Argument} (record { value = v; marked = m }) (record { value = w; marked = m })
  argument_parts v w m e = cc

  arguments_same : (args : List Argument) → ArgumentsIn P args → map (read_argument r) args ≡ map (read_argument q) args
  arguments_same [] h = refl
  arguments_same (a ∷ args) h =
      let e = argument_parts (read r a.value) (read q a.value) a.marked (value_same a.value h.0) in
      let f = arguments_same args h.1 in
      cc

  pub birth_same : (b : Birth) → BirthIn P b → read_birth r b ≡ read_birth q b
  birth_same (Put v) h = ap (λ w. Put w) (value_same v h)
  birth_same (Task g args depth retries others) h = ap (λ as'. Task g as' depth retries others) (arguments_same args h)

module _ (P Q : Id → Type 0) (sub : (o : Id) → P o → Q o) where
  mutual
    pub value_more : (v : Value) → ValueIn P v → ValueIn Q v
    value_more (Int n) h = tt
    value_more (Items vs) h = items_more vs h
    value_more (Named o) h = sub o h
    value_more (Known c) h = tt

    items_more : (vs : Values) → ItemsIn P vs → ItemsIn Q vs
    items_more none h = tt
    items_more (more v vs) h = (value_more v h.0, items_more vs h.1)

  outcome_more : (c : Outcome) → OutcomeIn P c → OutcomeIn Q c
  outcome_more (Val v) h = value_more v h
  outcome_more (Trapped t) h = tt

  pub outcomes_more : (cs : List Outcome) → OutcomesIn P cs → OutcomesIn Q cs
  outcomes_more [] h = tt
  outcomes_more (c ∷ cs) h = (outcome_more c h.0, outcomes_more cs h.1)

  pub values_more : (vs : List Value) → ValuesIn P vs → ValuesIn Q vs
  values_more [] h = tt
  values_more (v ∷ vs) h = (value_more v h.0, values_more vs h.1)

  arguments_more : (args : List Argument) → ArgumentsIn P args → ArgumentsIn Q args
  arguments_more [] h = tt
  arguments_more (a ∷ args) h = (value_more a.value h.0, arguments_more args h.1)

  pub birth_more : (b : Birth) → BirthIn P b → BirthIn Q b
  birth_more (Put v) h = value_more v h
  birth_more (Task g args depth retries others) h = arguments_more args h
