-- Objects that are kept under their serials: the next serial is a new key, and what is lent by its place keeps its serial.
use Rattle.std.proofs.Common.{◌≡◌, ℕ, zero, suc, ◌+◌, ◌<◌, ◌≤◌, inl, inr, ◌∷◌, ◌++◌, [], Bool, true, false, List, Some, None, refl, sym, ap, subst, ◌∙◌, arith, cond, length, nat_eq}
use Rattle.std.proofs.lemmas.Bool.Decides.{nat_tests}
use Rattle.std.proofs.lemmas.List.{length-map, length-append, map-append}
use Rattle.std.specs.Prelude.{slice_get, slice_set}
use Rattle.std.specs.Map.{keys_of, lookup, values_of}
use Rattle.indexmap.specs.IndexMap.{IndexMap, get, index_map_len, insert_entry, keys, set_value_at, values, with_value_at}
use Rattle.indexmap.proofs.CallerLemmas.{insert_entry-new, keys-with_value_at}
use Rattle.sequence.proofs.Places.{slice_get-push_cases}
use Rattle.protocol_data.specs.declared.tables.Object.{Object}
use Rattle.protocol_data.specs.Serials.{AreSerials}
use Rattle.protocol_data.specs.Searches.{IsSearchedBy}
use Rattle.protocol_data.specs.declared.search.Search.{Search}
use Rattle.protocol_data.proofs.Searches.{between, changed, grown, length_set, seen_less}

-- those from n on
abbrev AreFrom : ℕ → List ℕ → Type 0
AreFrom n ks = (i k : ℕ) → slice_get ks i ≡ Some k → k ≡ n + i

other : (j n k : ℕ) → k ≡ n → n < j → nat_eq j k ≡ false
other j n k e l = grind (arith, nat_tests, e, l)

none_of : {X : Type 0} (n j : ℕ) (es : List (ℕ × X)) → AreFrom n (keys_of es) → n + length es ≤ j → lookup (nat_eq j) es ≡ None
none_of n j [] f l = refl
none_of n j (e ∷ es) f l =
    ap (λ b. cond b (Some e.1) (lookup (nat_eq j) es)) (other j n e.0 (f 0 e.0 refl ∙ omega arith) (omega (arith, l)))
    ∙ none_of (n + 1) j es (λ i k g. f (suc i) k g ∙ omega arith) (omega (arith, l))

module _ {X S : Type 0} (m : IndexMap ℕ X S) where
  pub length_of_values : length (values m) ≡ index_map_len m
  length_of_values = length-map m.entries (λ e. e.1)

  length_of_keys : length (keys m) ≡ index_map_len m
  length_of_keys = length-map m.entries (λ e. e.0)

  module _ (n : ℕ) (x : X) (are : AreSerials (keys m)) (end : n ≡ index_map_len m) where
    pub next_is_new : get nat_eq m (n + 1) ≡ None
    next_is_new = none_of 1 (n + 1) m.entries are (omega (arith, end))

    entries_pushed : insert_entry nat_eq m.entries (n + 1) x ≡ m.entries ++ (n + 1, x) ∷ []
    entries_pushed = insert_entry-new nat_eq m (n + 1) x next_is_new

    module _ (made : IndexMap ℕ X S) (e : made.entries ≡ insert_entry nat_eq m.entries (n + 1) x) where
      pub values_pushed : values made ≡ values m ++ x ∷ []
      values_pushed = ap values_of (e ∙ entries_pushed) ∙ map-append (λ p. p.1) m.entries ((n + 1, x) ∷ [])

      keys_pushed : keys made ≡ keys m ++ (n + 1) ∷ []
      keys_pushed = ap keys_of (e ∙ entries_pushed) ∙ map-append (λ p. p.0) m.entries ((n + 1, x) ∷ [])

      pub serials_pushed : AreSerials (keys made)
      serials_pushed i k g =
          elim (slice_get-push_cases (keys m) (n + 1) i k (sym (ap (λ ks. slice_get ks i) keys_pushed) ∙ g)) [
            | inl l ↦ are i k l
            | inr r ↦ r.1 ∙ omega (arith, r.0, end, length_of_keys)
          ]

values_set : {X : Type 0} (es : List (ℕ × X)) (i : ℕ) (w : X) → values_of (set_value_at es i w) ≡ slice_set (values_of es) i w
values_set [] i w = refl
values_set (e ∷ es) zero w = refl
values_set (e ∷ es) (suc i) w = ap (λ xs. e.1 ∷ xs) (values_set es i w)

-- what is lent by its place may become whatever it will
module _ {X S : Type 0} (m : IndexMap ℕ X S) (i : ℕ) (w : X) where
  pub values_lent : values (with_value_at m i w) ≡ slice_set (values m) i w
  values_lent = values_set m.entries i w

  pub serials_lent : AreSerials (keys m) → AreSerials (keys (with_value_at m i w))
  serials_lent are = subst AreSerials (sym (keys-with_value_at m i w)) are

-- the invariant of the objects after a push, and after a change
module _ {S : Type 0} (m made : IndexMap ℕ Object S) (s : Search) (are : AreSerials (keys m) × IsSearchedBy (values m) s) where
  pub pushed_searched : (n seen : ℕ) (fs : List Bool) (x : Object) → n ≡ index_map_len m → seen ≤ n → seen ≤ s.seen → fs ≡ s.changed ++ false ∷ [] →
      made.entries ≡ insert_entry nat_eq m.entries (n + 1) x →
      AreSerials (keys made) × IsSearchedBy (values made) (record { seen = seen; changed = fs; bearer = s.bearer; own_from = s.own_from })
  pushed_searched n seen fs x end within less pushed e = (
    serials_pushed m n x are.0 end made e,
    subst (λ xs. IsSearchedBy xs (record { seen = seen; changed = fs; bearer = s.bearer; own_from = s.own_from })) (sym (values_pushed m n x are.0 end made e))
        (subst (λ gs. IsSearchedBy (values m ++ x ∷ []) (record { seen = seen; changed = gs; bearer = s.bearer; own_from = s.own_from })) (sym pushed)
        (record {
          marked = length-append s.changed (false ∷ []) ∙ ap (λ k. k + 1) are.1.marked ∙ sym (length-append (values m) (x ∷ []));
          kept = grown (values m) seen s.own_from s.changed s.bearer x false are.1.marked
              (seen_less (values m) s.seen seen s.own_from s.changed s.bearer are.1.kept less) (omega (arith, within, end, length_of_values m));
        })),
  )

pub lent_searched : {S : Type 0} (m : IndexMap ℕ Object S) (s : Search) (fs : List Bool) (place : ℕ) (w : Object) →
    AreSerials (keys m) × IsSearchedBy (values m) s → (place < s.seen → fs ≡ slice_set s.changed place true) → (s.seen ≤ place → fs ≡ s.changed) →
    AreSerials (keys (with_value_at m place w))
    × IsSearchedBy (values (with_value_at m place w)) (record { seen = s.seen; changed = fs; bearer = s.bearer; own_from = s.own_from })
lent_searched m s fs place w are marked unseen = (
  serials_lent m place w are.0,
  subst (λ xs. IsSearchedBy xs (record { seen = s.seen; changed = fs; bearer = s.bearer; own_from = s.own_from })) (sym (values_lent m place w)) (record {
    marked = long ∙ are.1.marked ∙ sym (length_set (values m) place w);
    kept = changed (values m) s.seen s.own_from place s.changed fs s.bearer w are.1.kept marked unseen;
  }),
)
  where
    long : length fs ≡ length s.changed
    long = elim (between place s.seen) [ inl l ↦ ap length (marked l) ∙ length_set s.changed place true | inr l ↦ ap length (unseen l) ]
