-- An object that isn't born yet is nowhere in a legal log.
use Rattle.std.proofs.Common.{ap, ◌≡◌, ◌≤◌, ℕ, Bool, true, false, List, [], ◌∷◌, ◌++◌, Option, Some, ◌⊎◌, inl, inr, refl, sym, subst, arith}
use Rattle.std.specs.Prelude.{if◌then◌else◌, slice_get}
use Rattle.std.specs.List.{flat_map}
use Rattle.script_laws.specs.of_meaning.Values.{Birth, Put, Id}
use Rattle.script_laws.specs.of_meaning.Births.{same_id, Bearing, birth_at, is_made_by, Part, part_of, part_at}
use Rattle.script_laws.specs.of_meaning.Readings.{IsBorn}
use Rattle.script_laws.proofs.of_meaning.BirthLaws.{same_id-true, at_test, first_is_made}
use Rattle.event_log.specs.Entries.{Attempt, Fault, Entry, Born, Resolved, Released}
use Rattle.event_log.specs.Words.{births, born_in, main_bearing, next_serial, bearers_of, runs_of, resolved_in, resolves_of, released_in, releases_of}
use Rattle.event_log.specs.Breaks.{Cause}
use Rattle.event_log.specs.Rules.{Setting, IsLoss, LastFaulted, LostBelow, Allowed}
use Rattle.event_log.specs.Legal.{EachAllowed, Legal, opening}
use Rattle.event_log.specs.Fresh.{FreshIsUnknown, FreshObjectsAreUnknown}
use Rattle.event_log.specs.Sane.{Sane}
use Rattle.event_log.proofs.Extending.{births-more, parts-more}
use Rattle.event_log.proofs.SaneLaws.{always, word_last, none_at, one_at, BegunWell, begun_step, begun_first, legal_logs_are_sane, each_keeps, allowed_sane}

-- ---- what was borne was born

borne_by : (t : Bool) (a c : Attempt) (ls : List Attempt) (p : Option Part) (b : Part) (k : ℕ) → ((j : ℕ) → slice_get ls j ≡ Some c → (d : Part) × (p ≡ Some d)) →
    slice_get ((if t then a ∷ [] else []) ++ ls) k ≡ Some c → (d : Part) × ((if t then Some b else p) ≡ Some d)
borne_by true a c ls p b k f e = (b, refl)
borne_by false a c ls p b k f e = f k e

born_if_borne : (o : Id) (log : List Entry) (k : ℕ) (c : Attempt) → slice_get (bearers_of o log) k ≡ Some c → IsBorn (flat_map born_in log) o
born_if_borne o [] k c e = absurd (none_at k c e)
born_if_borne o (Born p a b ∷ log) k c e =
    let x : Bearing = record { object = p; birth = b } in
    borne_by (is_made_by x o) a c (bearers_of o log) (part_at (flat_map born_in log) o) (part_of x o) k (λ j h. born_if_borne o log j c h) e
born_if_borne o (x ∷ log) k c e = born_if_borne o log k c e

or_main : (t : Bool) (m : Part) (p : Option Part) → ((d : Part) × (p ≡ Some d)) → (d : Part) × ((if t then Some m else p) ≡ Some d)
or_main true m p h = (m, refl)
or_main false m p h = h

pub borne_is_born : (o : Id) (log : List Entry) (k : ℕ) (c : Attempt) → slice_get (bearers_of o log) k ≡ Some c → IsBorn (births log) o
borne_is_born o log k c e = or_main (is_made_by main_bearing o) (part_of main_bearing o) (part_at (flat_map born_in log) o) (born_if_borne o log k c e)

-- the first of a birth is one of its objects
pub born_if_first : (xs : List Bearing) (o : Id) (b : Birth) → birth_at xs o ≡ Some b → IsBorn xs o
born_if_first [] o b e = absurd (cc)
born_if_first (x ∷ xs) o b e =
    let other = λ (e' : birth_at xs o ≡ Some b). or_main (is_made_by x o) (part_of x o) (part_at xs o) (born_if_first xs o b e') in
    at_test (λ t. (if t then Some x.birth else birth_at xs o) ≡ Some b → (t ≡ true → IsBorn (x ∷ xs) o) → (birth_at xs o ≡ Some b → IsBorn (x ∷ xs) o) → IsBorn (x ∷ xs) o) (same_id x.object o)
    (λ t _ f g. f refl) (λ t k f g. g k) e
    (λ t. let same = same_id-true x.object o t in (part_of x o, ap (λ c. if c then Some (part_of x o) else part_at xs o) (subst (λ p. is_made_by x p ≡ true) same (first_is_made x)))) other

-- ---- what was resolved or released was born

born_if_lost : (before : List Entry) (o : Id) (f : Fault) → Cause before f → IsLoss f o → IsBorn (births before) o
born_if_lost before o f c (inl e) =
    let h = subst (λ g. Cause before g) e c in
    born_if_first (births before) o (Put h.value) (subst (λ l. birth_at (births l) o ≡ Some (Put h.value)) (sym h.parts) (births-more h.before h.after o (Put h.value) h.put))
born_if_lost before o f c (inr e) = let h = subst (λ g. Cause before g) e c in (h.part, h.born)

born_if_resolved : (before : List Entry) (o : Id) (f : Fault) → Cause before f → (LastFaulted before o f ⊎ IsLoss f o ⊎ LostBelow before o f) → IsBorn (births before) o
born_if_resolved before o f c (inl h) = (h.part, h.born)
born_if_resolved before o f c (inr (inl h)) = born_if_lost before o f c h
born_if_resolved before o f c (inr (inr h)) = (h.part, h.born)

abbrev KnownBorn : List Entry → Type 0
KnownBorn log =
    BegunWell log
    × ((o : Id) (k : ℕ) (f : Fault) → slice_get (resolves_of o log) k ≡ Some f → IsBorn (births log) o)
    × ((o : Id) (k : ℕ) (p : Id) → slice_get (releases_of o log) k ≡ Some p → IsBorn (births log) o)

born-more : (before : List Entry) (x : Entry) (o : Id) → IsBorn (births before) o → IsBorn (births (before ++ x ∷ [])) o
born-more before x o h = (h.0, parts-more before (x ∷ []) o h.0 h.1)

resolved_now : (s : Setting) (before : List Entry) (x : Entry) → Allowed s before x → (o : Id) (j : ℕ) (f : Fault) → slice_get (resolved_in o x) j ≡ Some f → IsBorn (births before) o
resolved_now s before (Resolved q g) h o j f e = subst (λ p. IsBorn (births before) p) (same_id-true q o (one_at (same_id q o) g f j e).0) (born_if_resolved before q g h.cause h.reason)
resolved_now s before x h o j f e = absurd (none_at j f e)

released_now : (s : Setting) (before : List Entry) (x : Entry) → Allowed s before x → (o : Id) (j : ℕ) (p : Id) → slice_get (released_in o x) j ≡ Some p → IsBorn (births before) o
released_now s before (Released q) h o j p e = subst (λ r. IsBorn (births before) r) (same_id-true q o (one_at (same_id q o) q p j e).0) (borne_is_born q before h.bore.0 h.bearer h.bore.1)
released_now s before x h o j p e = absurd (none_at j p e)

known_step : (s : Setting) (before : List Entry) (x : Entry) → KnownBorn before → Allowed s before x → KnownBorn (before ++ x ∷ [])
known_step s before x h a = (
  begun_step s before x h.0 a,
  λ o k f e. born-more before x o (elim (word_last (resolved_in o) before x k f e) [ inl old ↦ h.1 o k f old | inr new ↦ resolved_now s before x a o new.0 f new.1 ]),
  λ o k p e. born-more before x o (elim (word_last (released_in o) before x k p e) [ inl old ↦ h.2 o k p old | inr new ↦ released_now s before x a o new.0 p new.1 ]),
)

known_first : KnownBorn opening
known_first = (begun_first, λ o k f e. absurd (none_at k f e), λ o k p e. absurd (none_at k p e))

-- ---- fresh objects

none_if : {X : Type 0} (xs : List X) → ((x : X) → slice_get xs 0 ≡ Some x → ⊥) → xs ≡ []
none_if [] h = refl
none_if (x ∷ xs) h = absurd (h x refl)

unknown : (log : List Entry) → KnownBorn log → Sane log → (o : Id) → next_serial o.owner (births log) ≤ o.serial → FreshIsUnknown log o
unknown log k sane o e =
    let unborn : IsBorn (births log) o → ⊥ = λ b. let l = sane.serials o b in absurd (omega (arith, l, e)) in
    record {
      unbegun = none_if (runs_of o log) (λ w f. let g = (k.0 o 0 w f).0 in unborn (born_if_first (births log) o g.0 g.1));
      unresolved = none_if (resolves_of o log) (λ f g. unborn (k.1 o 0 f g));
      unreleased = none_if (releases_of o log) (λ p g. unborn (k.2 o 0 p g));
    }

pub fresh_objects_are_unknown : FreshObjectsAreUnknown
fresh_objects_are_unknown s log h = unknown log (always KnownBorn known_step s log known_first h) (legal_logs_are_sane s log h)

-- the same behind entries that are allowed, also within an event
pub allowed_fresh : (s : Setting) (log es : List Entry) → Legal s log → EachAllowed s log es → (o : Id) → next_serial o.owner (births (log ++ es)) ≤ o.serial → FreshIsUnknown (log ++ es) o
allowed_fresh s log es h a = unknown (log ++ es) (each_keeps KnownBorn known_step s es log (always KnownBorn known_step s log known_first h) a) (allowed_sane s log es h a)
