-- An object is held exactly where somebody holds it.
use Rattle.std.proofs.Common.{◌≡◌, zero, suc, Bool, true, false, List, [], ◌∷◌, refl, sym, ap, subst}
use Rattle.std.specs.Prelude.{◌||◌, not}
use Rattle.std.specs.List.{list_any}
use Rattle.protocol_data.specs.of_meaning.Values.{Id}
use Rattle.protocol_data.proofs.of_meaning.BirthLaws.{at_test}
use Rattle.protocol_data.specs.of_event_log.Breaks.{Among}
use Rattle.protocol.specs.Sets.{has_id}
use Rattle.protocol.specs.Tables.{Object, is_held}
use Rattle.protocol.specs.Laws.{IsHolder}

module _ (p : Id → Bool) where
  found : (os : List Id) (e : Id) → Among e os → p e ≡ true → list_any p os ≡ true
  found [] e (k, g) t = absurd (cc)
  found (o ∷ os) e (zero, g) t =
      let same : o ≡ e = cc in
      let it : p o ≡ true = subst (λ (z : Id). p z ≡ true) (sym same) t in
      ap (λ b. b || list_any p os) it
  found (o ∷ os) e (suc k, g) t = at_test (λ b. (b || list_any p os) ≡ true) (p o) (λ b. refl) (λ b. found os e (k, g) t)

  -- one of these, which passes the test
  record One (os : List Id) : Type 0 where
    pub id : Id
    pub among : Among id os
    pub passes : p id ≡ true

  one_of : (os : List Id) → list_any p os ≡ true → One os
  one_of [] g = absurd (cc)
  one_of (o ∷ os) g =
      at_test (λ b. p o ≡ b → (b || list_any p os) ≡ true → One (o ∷ os)) (p o)
      (λ b t r. record { id = o; among = (0, refl); passes = t })
      (λ b t r. let f = one_of os r in record { id = f.id; among = (suc f.among.0, f.among.1); passes = f.passes }) refl g

not_true : (b : Bool) → not b ≡ true → b ≡ false
not_true false e = refl
not_true true e = absurd (cc)

pub by_one : (x : Object) (e : Id) → IsHolder x e → is_held x ≡ true
by_one x e i = found (λ d. not (has_id x.removed d)) x.added e i.added (ap not i.stays)

pub of_one : (x : Object) → is_held x ≡ true → (e : Id) × IsHolder x e
of_one x g =
    let r = one_of (λ d. not (has_id x.removed d)) x.added g in
    (r.id, record { added = r.among; stays = not_true (has_id x.removed r.id) r.passes })
