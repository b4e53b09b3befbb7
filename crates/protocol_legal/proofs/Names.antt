-- Names stay true as the past goes on.
use Rattle.std.proofs.Common.{◌≡◌, ℕ, Bool, true, List, [], ◌∷◌, ◌++◌, Option, Some, None, refl, subst}
use Rattle.std.specs.Prelude.{suc, if◌then◌else◌, nat_lt}
use Rattle.std.specs.List.{AllByRecursion, filter, list_any}
use Rattle.meaning.specs.Values.{Birth, Id}
use Rattle.meaning.specs.Births.{Part, part_at, same_id}
use Rattle.kind_laws.specs.of_event_log.Entries.{Entry}
use Rattle.kind_laws.specs.of_event_log.Words.{attempt, births, ends_of}
use Rattle.meaning.proofs.BirthLaws.{at_test}
use Rattle.values.specs.Listed.{without, each_once, adding}
use Rattle.kind_laws.specs.of_event_log.Breaks.{Among}
use Rattle.kind_laws.specs.of_event_log.Holding.{HasId, InBirth, InContents, ids_of_birth}
use Rattle.step_laws.specs.of_protocol.Tables.{Holding}
use Rattle.step_laws.specs.of_protocol.Holders.{first_born, first_born_first}
use Rattle.protocol_legal.specs.Past.{Past}
use Rattle.protocol_legal.specs.Grows.{Grows}
use Rattle.protocol_legal.specs.Names.{IsDeadIfAny, AllHave, KnowsNames}
use Rattle.protocol_legal.proofs.Growing.{has_grows, dead_holder_grows}

-- ---- lists

pub all_each : {X : Type 0} (P Q : X → Type 0) (xs : List X) → ((x : X) → P x → Q x) → AllByRecursion P xs → AllByRecursion Q xs
all_each P Q [] f h = tt
all_each P Q (x ∷ xs) f h = (f x h.0, all_each P Q xs f h.1)

pub all_among : {X : Type 0} (P : X → Type 0) (xs : List X) → ((x : X) → Among x xs → P x) → AllByRecursion P xs
all_among P [] f = tt
all_among P (x ∷ xs) f = (f x (0, refl), all_among P xs (λ y a. f y (later y a)))
  where
    later : (y : _) → Among y xs → Among y (x ∷ xs)
    later y (k, e) = (suc k, e)

pub all_last : {X : Type 0} (P : X → Type 0) (xs : List X) (x : X) → AllByRecursion P xs → P x → AllByRecursion P (xs ++ x ∷ [])
all_last P [] x h k = (k, tt)
all_last P (y ∷ xs) x h k = (h.0, all_last P xs x h.1 k)

pub all_both : {X : Type 0} (P : X → Type 0) (xs ys : List X) → AllByRecursion P xs → AllByRecursion P ys → AllByRecursion P (xs ++ ys)
all_both P [] ys h k = k
all_both P (x ∷ xs) ys h k = (h.0, all_both P xs ys h.1 k)

pub all_adding : (P : Id → Type 0) (ys xs : List Id) → AllByRecursion P xs → AllByRecursion P ys → AllByRecursion P (adding xs ys)
all_adding P [] xs h k = h
all_adding P (o ∷ os) xs h k = all_adding P os (if list_any (λ p. same_id p o) xs then xs else xs ++ o ∷ [])
    (at_test (λ b. AllByRecursion P (if b then xs else xs ++ o ∷ [])) (list_any (λ p. same_id p o) xs) (λ b. h) (λ b. all_last P xs o h k.0)) k.1

all_without : (P : Id → Type 0) (o : Id) (xs : List Id) → AllByRecursion P xs → AllByRecursion P (without o xs)
all_without P o [] h = tt
all_without P o (x ∷ xs) h = at_test (λ b. AllByRecursion P (if b then without o xs else x ∷ without o xs)) (same_id x o) (λ b. all_without P o xs h.1) (λ b. (h.0, all_without P o xs h.1))

pub all_once : (P : Id → Type 0) (xs : List Id) → AllByRecursion P xs → AllByRecursion P (each_once xs)
all_once P [] h = tt
all_once P (x ∷ xs) h = (h.0, all_without P x (each_once xs) (all_once P xs h.1))

pub all_kept : {X : Type 0} (P Q : X → Type 0) (t : X → Bool) (xs : List X) → ((x : X) → t x ≡ true → P x → Q x) → AllByRecursion P xs → AllByRecursion Q (filter t xs)
all_kept P Q t [] f h = tt
all_kept P Q t (x ∷ xs) f h =
    at_test (λ b. t x ≡ b → AllByRecursion Q (if b then x ∷ filter t xs else filter t xs)) (t x) (λ b e. (f x e h.0, all_kept P Q t xs f h.1)) (λ b e. all_kept P Q t xs f h.1) refl

all_first_born : (P : Id → Type 0) (d : Id) (es : List Id) → P d → AllByRecursion P es → P (first_born d es)
all_first_born P d [] k h = k
all_first_born P d (e ∷ es) k h =
    all_first_born P (if nat_lt e.serial d.serial then e else d) es (at_test (λ b. P (if b then e else d)) (nat_lt e.serial d.serial) (λ b. h.0) (λ b. k)) h.1

pub all_first_born_first : (P : Id → Type 0) (es : List Id) → AllByRecursion P es → AllByRecursion P (first_born_first es)
all_first_born_first P [] h = tt
all_first_born_first P (e ∷ es) h = (all_first_born P e es h.0 h.1, h)

-- ---- of the objects of one birth, each has the ids that the first one has

pub has_beside : (log : List Entry) (first e : Id) (b : Birth) (k place : ℕ) → part_at (births log) first ≡ Some (record { born = record { object = first; birth = b }; place = k }) →
    part_at (births log) e ≡ Some (record { born = record { object = first; birth = b }; place = place }) → (z : Id) → HasId log first z → HasId log e z
has_beside log first e b k place at there z (InBirth x born m) =
    let same : x ≡ record { born = record { object = first; birth = b }; place = k } = cc in
    InBirth (record { born = record { object = first; birth = b }; place = place }) there (subst (λ (u : Part). Among z (ids_of_birth u.born.birth)) same m)
has_beside log first e b k place at there z (InContents x number cs born h m) =
    let same : x ≡ record { born = record { object = first; birth = b }; place = k } = cc in
    InContents (record { born = record { object = first; birth = b }; place = place }) number cs there (subst (λ (u : Part). Among cs (ends_of (attempt u.born.object number) log)) same h) m

-- ---- growth

module _ (p q : Past) (g : Grows p q) where
  pub dead_grows : (z : Id) (d : Option Id) → IsDeadIfAny p.log z d → IsDeadIfAny q.log z d
  dead_grows z None h = h
  dead_grows z (Some e) h = dead_holder_grows p q g e z h

  pub all_have_grows : (ks : List Holding) → AllHave p.log ks → AllHave q.log ks
  all_have_grows ks h = all_each (λ k. HasId p.log k.holder k.object) (λ k. HasId q.log k.holder k.object) ks (λ k i. has_grows p q g k.holder k.object i) h

  pub names_grow : (o : Id) (ids added : List Id) (d : Option Id) → KnowsNames p.log o ids added d → KnowsNames q.log o ids added d
  names_grow o ids added d h = record {
    ids = all_each (λ z. HasId p.log o z) (λ z. HasId q.log o z) ids (λ z i. has_grows p q g o z i) h.ids;
    holders = all_each (λ e. HasId p.log e o) (λ e. HasId q.log e o) added (λ e i. has_grows p q g e o i) h.holders;
    dead = dead_grows o d h.dead;
  }
