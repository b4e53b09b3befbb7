-- One more birth, which names only what is born, keeps all that was true.
use Rattle.std.proofs.Common.{◌≡◌, ℕ, ◌<◌, true, List, [], ◌∷◌, ◌++◌, Option, Some, None, refl, sym, ap, subst, arith, append-nil, append_assoc}
use Rattle.std.specs.Prelude.{if◌then◌else◌, ◌==◌}
use Rattle.std.proofs.lemmas.Bool.Decides.{nat_tests}
use Rattle.meaning.specs.Values.{Birth, results_of, Id}
use Rattle.meaning.specs.Syntax.{Script}
use Rattle.meaning.specs.Births.{Bearing, birth_at, is_made_by, Part, part_of, part_at, IsNew}
use Rattle.meaning.specs.Ids.{BirthIn}
use Rattle.meaning.specs.Readings.{IsBorn, NameEarlier}
use Rattle.meaning.proofs.BirthLaws.{or_else, birth_at-push, made_owner, made_from, made_below, grouped_push}
use Rattle.script_laws.proofs.Dens.{kept, sub, same, by_part, holds_push, named_push}
use Rattle.event_log.specs.Entries.{Attempt}
use Rattle.event_log.specs.Words.{next_serial}
use Rattle.event_log.proofs.WordLaws.{next_serial-push, Deeds}
use Rattle.meaning_laws.proofs.Good.{AllBorn, Told, Stands, Good, spec_named, told_nothing, told_more}

earlier_push : (before xs : List Bearing) (x : Bearing) → NameEarlier before xs → IsNew (before ++ xs) x → BirthIn (IsBorn (before ++ xs)) x.birth → NameEarlier before (xs ++ x ∷ [])
earlier_push before [] x h f n =
    let e = append-nil before in
    (subst (λ bs. IsNew bs x) e f, subst (λ bs. BirthIn (IsBorn bs) x.birth) e n, tt)
earlier_push before (y ∷ xs) x h f n =
    let e = sym (append_assoc before (y ∷ []) xs) in
    (h.0, h.1, earlier_push (before ++ y ∷ []) xs x h.2 (subst (λ bs. IsNew bs x) e f) (subst (λ bs. BirthIn (IsBorn bs) x.birth) e n))

module _ (script : Script) (bs : List Bearing) (x : Bearing) (own : Attempt → List Bearing) (did : Attempt → Deeds) (good : Good script bs own did) (next : x.object.serial ≡ next_serial x.object.owner bs) (named : BirthIn (IsBorn bs) x.birth) where
  fresh_by : (o : Id) (p : Option Part) → is_made_by x o ≡ true → part_at bs o ≡ p → p ≡ None
  fresh_by o None m e = refl
  fresh_by o (Some p) m e =
      let h = good.bound o (p, e) in
      let from = made_from x o m in
      let same_owner = ap (λ w. next_serial w bs) (made_owner x o m) in
      absurd (omega (arith, h, next, from, same_owner))

  pub fresh : IsNew bs x
  fresh o m = fresh_by o (part_at bs o) m refl

  as_many : (n r : ℕ) → ◌≡◌ {A = ℕ} (if n == n then r else 0) r
  as_many n r = let e : (n == n) ≡ true = grind (arith, nat_tests) in ap {B = ℕ} (λ t. if t then r else 0) e

  made_bound : (o : Id) → is_made_by x o ≡ true → o.serial < next_serial o.owner (bs ++ x ∷ [])
  made_bound o m =
      let k = made_below x o m in
      let i = next_serial-push x.object.owner bs x in
      let n = as_many x.object.owner (results_of x.birth) in
      let here : o.serial < next_serial x.object.owner (bs ++ x ∷ []) = omega (arith, k, i, n, next) in
      subst (λ w. o.serial < next_serial w (bs ++ x ∷ [])) (made_owner x o m) here

  all_bound : (o : Id) → IsBorn (bs ++ x ∷ []) o → o.serial < next_serial o.owner (bs ++ x ∷ [])
  all_bound o b = by_part script bs x fresh o b.0 (λ p c. p.serial < next_serial p.owner (bs ++ x ∷ [])) b.1
      (λ h. let k = good.bound o (b.0, h) in let m = next_serial-push o.owner bs x in omega (arith, k, m))
      (made_bound o)

  pub all_born : (xs : List Bearing) → AllBorn bs xs → AllBorn (bs ++ x ∷ []) xs
  all_born [] h = tt
  all_born (y ∷ xs) h = (λ o m. kept script bs x fresh o (part_of y o) (h.0 o m), all_born xs h.1)

  stands_by : (p q : Option Birth) (d : Deeds) → ((b : Birth) → p ≡ Some b → BirthIn (IsBorn bs) b) → Stands script bs p d → Stands script (bs ++ x ∷ []) (or_else p q) d
  stands_by None None d k h = h
  stands_by None (Some b) d k h = subst (λ d'. Told script (bs ++ x ∷ []) b d') (sym h) (told_nothing script (bs ++ x ∷ []) b)
  stands_by (Some spec) q d k h = told_more script bs (bs ++ x ∷ []) (sub script bs x fresh) (same script bs x fresh) spec d (k spec refl) h

  stands : (a : Attempt) → Stands script (bs ++ x ∷ []) (birth_at (bs ++ x ∷ []) a.object) (did a)
  stands a = subst (λ p. Stands script (bs ++ x ∷ []) p (did a)) (sym (birth_at-push bs x a.object))
      (stands_by (birth_at bs a.object) (birth_at (x ∷ []) a.object) (did a) (λ b e. spec_named script bs own did good a.object b e) (good.told a))

  pub good_birth : Good script (bs ++ x ∷ []) own did
  good_birth = record {
    hold = holds_push script bs x fresh named good.named good.hold;
    named = named_push script bs x fresh named good.named;
    earlier = earlier_push [] bs x good.earlier fresh named;
    bound = all_bound;
    grouped = grouped_push bs x fresh good.grouped;
    born = λ a. all_born (own a) (good.born a);
    told = stands;
  }
