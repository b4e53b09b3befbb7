-- The objects of one birth were borne by the same attempts.
use Rattle.std.proofs.Common.{◌≡◌, Bool, true, false, List, [], ◌∷◌, ◌++◌, Some, None, refl, sym, ap, ◌∙◌, subst, append-nil}
use Rattle.std.specs.Prelude.{if◌then◌else◌, slice_get}
use Rattle.script_laws.specs.of_meaning.Values.{Birth, Id}
use Rattle.script_laws.specs.of_meaning.Births.{Bearing, is_made_by, IsNew, Part, part_at}
use Rattle.script_laws.specs.of_meaning.Readings.{IsBorn}
use Rattle.script_laws.proofs.of_meaning.BirthLaws.{first_is_made, part_by}
use Rattle.event_log.specs.Entries.{Attempt, Entry, Born}
use Rattle.event_log.specs.Words.{births, born_in, next_serial, bearer_in, bearers_of}
use Rattle.event_log.specs.Rules.{Setting, Allowed}
use Rattle.event_log.specs.Legal.{EachAllowed, Legal, opening}
use Rattle.event_log.proofs.WordLaws.{word_push, births_push}
use Rattle.event_log.proofs.SaneLaws.{always, each_keeps, SerialsBound, bound_step, bound_first, new_by}
use Rattle.event_log.proofs.FreshLaws.{borne_is_born}

abbrev pub AreTogether : List Entry → Type 0
AreTogether log = (z : Id) (q : Part) → part_at (births log) z ≡ Some q → bearers_of z log ≡ bearers_of q.born.object log

abbrev Both : List Entry → Type 0
Both log = SerialsBound log × AreTogether log

-- what isn't born has no bearer
no_bearer : (log : List Entry) (o : Id) → part_at (births log) o ≡ None → bearers_of o log ≡ []
no_bearer log o e = by (bearers_of o log) refl
  where
    by : (bs : List Attempt) → bearers_of o log ≡ bs → bs ≡ []
    by [] f = refl
    by (b ∷ bs) f = let h = borne_is_born o log 0 b (ap (λ xs. slice_get xs 0) f) in let g = h.1 in absurd (cc)

-- what is born isn't new
not_new : (xs : List Bearing) (x : Bearing) (o : Id) → IsNew xs x → IsBorn xs o → (b : Bool) → is_made_by x o ≡ b → b ≡ false
not_new xs x o fresh born false e = refl
not_new xs x o fresh born true e = let f = fresh o e in let g = born.1 in absurd (cc)

module _ (log : List Entry) (o : Id) (a : Attempt) (b : Birth) (h : Both log) (next : o.serial ≡ next_serial o.owner (births log)) where
  abbrev x : Bearing
  x = record { object = o; birth = b }

  fresh : IsNew (births log) x
  fresh z m = new_by (births log) x next h.0.0 z (part_at (births log) z) m refl

  borne : (z : Id) → bearers_of z (log ++ Born o a b ∷ []) ≡ bearers_of z log ++ (if is_made_by x z then a ∷ [] else [])
  borne z = word_push (bearer_in z) log (Born o a b)

  -- those of an earlier birth
  earlier : (z : Id) → IsBorn (births log) z → bearers_of z (log ++ Born o a b ∷ []) ≡ bearers_of z log
  earlier z i = borne z ∙ ap (λ t. bearers_of z log ++ (if t then a ∷ [] else [])) (not_new (births log) x z fresh i (is_made_by x z) refl) ∙ append-nil (bearers_of z log)

  -- and of this one
  now : (z : Id) → is_made_by x z ≡ true → bearers_of z (log ++ Born o a b ∷ []) ≡ a ∷ []
  now z m = borne z ∙ ap (λ bs. bs ++ (if is_made_by x z then a ∷ [] else [])) (no_bearer log z (fresh z m)) ∙ ap (λ t. if t then a ∷ [] else []) m

  first_born : (z : Id) (q : Part) → part_at (births log) z ≡ Some q → IsBorn (births log) q.born.object
  first_born z q e = let m = h.0.1.firsts z q e in (_, h.0.1.whole q.born.object q.born.object q.born.birth m (first_is_made q.born))

  together_born : AreTogether (log ++ Born o a b ∷ [])
  together_born z q e =
      part_by (births log) x fresh z q (λ (i : Id) (r : Part). bearers_of i (log ++ Born o a b ∷ []) ≡ bearers_of r.born.object (log ++ Born o a b ∷ []))
      (subst (λ bs. part_at bs z ≡ Some q) (births_push log (Born o a b)) e)
      (λ old. earlier z (q, old) ∙ h.1 z q old ∙ sym (earlier q.born.object (first_born z q old)))
      (λ m. now z m ∙ sym (now o (first_is_made x)))

together_same : (log : List Entry) (e : Entry) → born_in e ≡ [] → ((z : Id) → bearer_in z e ≡ []) → AreTogether log → AreTogether (log ++ e ∷ [])
together_same log e nb nobody h z q i =
    let same : (o : Id) → bearers_of o (log ++ e ∷ []) ≡ bearers_of o log = λ o. word_push (bearer_in o) log e ∙ ap (λ bs. bearers_of o log ++ bs) (nobody o) ∙ append-nil (bearers_of o log) in
    let before : births (log ++ e ∷ []) ≡ births log = births_push log e ∙ ap (λ xs. births log ++ xs) nb ∙ append-nil (births log) in
    same z ∙ h z q (subst (λ bs. part_at bs z ≡ Some q) before i) ∙ sym (same q.born.object)

together_step : (s : Setting) (log : List Entry) (e : Entry) → Both log → Allowed s log e → AreTogether (log ++ e ∷ [])
together_step s log (Born o a b) h m = together_born log o a b h m.next
together_step s log e h m = together_same log e refl (λ z. refl) h.1

both_step : (s : Setting) (log : List Entry) (e : Entry) → Both log → Allowed s log e → Both (log ++ e ∷ [])
both_step s log e h m = (bound_step s log e h.0 m, together_step s log e h m)

both_first : Both opening
both_first = (bound_first, λ z q e. refl)

-- the objects of one birth were borne by the same attempts
pub bearers_together : (s : Setting) (log : List Entry) → Legal s log → AreTogether log
bearers_together s log h = (always Both both_step s log both_first h).1

-- also within an event
pub allowed_together : (s : Setting) (log es : List Entry) → Legal s log → EachAllowed s log es → AreTogether (log ++ es)
allowed_together s log es h a = (each_keeps Both both_step s es log (always Both both_step s log both_first h) a).1
