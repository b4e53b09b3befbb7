-- A legal log of a script that keeps main apart bears no task of main, entry by entry.
use Rattle.std.proofs.Common.{◌≡◌, List, [], ◌∷◌, ◌++◌, ◌⊎◌, inl, inr, Option, Some, None, refl, sym, ap, ◌∙◌, subst, append-nil, append_assoc}
use Rattle.std.specs.Prelude.{if◌then◌else◌}
use Rattle.std.specs.List.{AllByRecursion}
use Rattle.meaning.specs.Lists.{IsFirst}
use Rattle.meaning.specs.Values.{Birth, Id, main_birth}
use Rattle.meaning.specs.Runs.{Piece, behind}
use Rattle.meaning.specs.Births.{Bearing, same_id, birth_at, numbered}
use Rattle.meaning.specs.Mains.{KeepsMainApart, IsNotMains}
use Rattle.meaning.proofs.BirthLaws.{at_test, same_id-true, or_else, birth_at-push}
use Rattle.script_laws.proofs.Mains.{main_stays_apart}
use Rattle.meaning_laws.specs.of_event_log.Entries.{Attempt, Entry, In, Refused, Opened, Begun, Born, Got, Printed, Ended, Accepted, Faulted, Resolved, Released, main_object}
use Rattle.meaning_laws.specs.of_event_log.Words.{births, born_in, own_births, answers_of}
use Rattle.meaning_laws.specs.of_event_log.Rules.{Setting, Allowed, MayBear, Replays}
use Rattle.meaning_laws.specs.of_event_log.Legal.{LegalFrom, Legal, opening}
use Rattle.meaning_laws.proofs.of_event_log.WordLaws.{births_push}
use Rattle.kind_laws.specs.Mains.{LegalLogsKeepMainApart}

-- none but main's own object is born of main
abbrev AreApart : List Bearing → Type 0
AreApart bs = (o : Id) (b : Birth) → birth_at bs o ≡ Some b → (o ≡ main_object) ⊎ IsNotMains b

one_more : (bs : List Bearing) (x : Bearing) → AreApart bs → IsNotMains x.birth → AreApart (bs ++ x ∷ [])
one_more bs x apart n o b e = go (birth_at bs o) refl (sym (birth_at-push bs x o) ∙ e)
  where
    go : (c : Option Birth) → birth_at bs o ≡ c → or_else c (birth_at (x ∷ []) o) ≡ Some b → (o ≡ main_object) ⊎ IsNotMains b
    go (Some c) f g = let same : c ≡ b = cc in apart o b (f ∙ ap Some same)
    go None f g =
        at_test (λ t. (if t then Some x.birth else None) ≡ Some b → (o ≡ main_object) ⊎ IsNotMains b) (same_id x.object o)
        (λ _ h. let same : x.birth ≡ b = cc in inr (subst IsNotMains same n)) (λ _ h. absurd (cc)) g

at_opening : AreApart (births opening)
at_opening o b e =
    at_test (λ t. (if t then Some main_birth else None) ≡ Some b → (o ≡ main_object) ⊎ IsNotMains b) (same_id main_object o)
    (λ t _. inl (sym (same_id-true main_object o t))) (λ _ h. absurd (cc)) e

-- what holds of all births holds of one of them
of_numbered : (P : Birth → Type 0) (xs : List Bearing) (x : Bearing) (base : Id) (bs : List Birth) → IsFirst (xs ++ x ∷ []) (numbered base bs) → AllByRecursion P bs → P x.birth
of_numbered P [] x base [] h all = absurd h
of_numbered P [] x base (b ∷ bs) h all = subst (λ (y : Bearing). P y.birth) h.0 all.0
of_numbered P (y ∷ ys) x base [] h all = absurd h
of_numbered P (y ∷ ys) x base (b ∷ bs) h all = of_numbered P ys x (behind base b) bs h.1 all.1

module _ (s : Setting) (keeps : KeepsMainApart s.script) where
  born : (log : List Entry) (o : Id) (a : Attempt) (b : Birth) → MayBear s log o a b → IsNotMains b
  born log o a b h =
      let r = h.replays in
      let x : Bearing = record { object = o; birth = b } in
      let all = (main_stays_apart s.script keeps r.spec h.base (answers_of a log)).births in
      of_numbered IsNotMains (own_births a log) x h.base _ (subst (λ (q : Piece). IsFirst (own_births a log ++ x ∷ []) (numbered h.base q.births)) r.replayed h.own) all

  silent : (log : List Entry) (e : Entry) → born_in e ≡ [] → AreApart (births log) → AreApart (births (log ++ e ∷ []))
  silent log e n apart = subst AreApart (sym (births_push log e ∙ (ap (λ xs. births log ++ xs) n ∙ append-nil (births log)))) apart

  step : (log : List Entry) (e : Entry) → AreApart (births log) → Allowed s log e → AreApart (births (log ++ e ∷ []))
  step log (In x seat) apart h = silent log (In x seat) refl apart
  step log (Refused code) apart h = silent log (Refused code) refl apart
  step log (Opened w n) apart h = silent log (Opened w n) refl apart
  step log (Begun a w) apart h = silent log (Begun a w) refl apart
  step log (Born o a b) apart h = subst AreApart (sym (births_push log (Born o a b))) (one_more (births log) (record { object = o; birth = b }) apart (born log o a b h))
  step log (Got a y c) apart h = silent log (Got a y c) refl apart
  step log (Printed v) apart h = silent log (Printed v) refl apart
  step log (Ended a c) apart h = silent log (Ended a c) refl apart
  step log (Accepted a) apart h = silent log (Accepted a) refl apart
  step log (Faulted a y f) apart h = silent log (Faulted a y f) refl apart
  step log (Resolved o f) apart h = silent log (Resolved o f) refl apart
  step log (Released o) apart h = silent log (Released o) refl apart

  steps : (before es : List Entry) → AreApart (births before) → LegalFrom s before es → AreApart (births (before ++ es))
  steps before [] apart h = subst (λ log. AreApart (births log)) (sym (append-nil before)) apart
  steps before (e ∷ es) apart h =
      subst (λ log. AreApart (births log)) (append_assoc before (e ∷ []) es) (steps (before ++ e ∷ []) es (step before e apart h.0) h.2)

  all_births : (log : List Entry) → Legal s log → AreApart (births log)
  all_births log h = subst (λ l. AreApart (births l)) (sym h.begins) (steps opening h.rest at_opening h.each)

  prints : (log : List Entry) → AreApart (births log) → (a : Attempt) (base : Id) (p : Piece) → Replays s log a base p → (a.object ≡ main_object) ⊎ (p.prints ≡ [])
  prints log apart a base p r = go (apart a.object r.spec r.born)
    where
      go : (a.object ≡ main_object) ⊎ IsNotMains r.spec → (a.object ≡ main_object) ⊎ (p.prints ≡ [])
      go (inl main) = inl main
      go (inr other) = inr (ap (λ (q : Piece). q.prints) r.replayed ∙ (main_stays_apart s.script keeps r.spec base (answers_of a log)).prints other)

pub legal_logs_keep_main_apart : LegalLogsKeepMainApart
legal_logs_keep_main_apart s log keeps h =
    let apart = all_births s keeps log h in
    record { births = apart; prints = prints s keeps log apart }
