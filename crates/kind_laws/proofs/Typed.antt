-- The births of a legal log have kinds as read, entry by entry.
use Rattle.std.proofs.Common.{◌≡◌, List, [], ◌∷◌, ◌++◌, Some, refl, sym, ap, ◌∙◌, subst, append-nil}
use Rattle.meaning.specs.Lists.{IsFirst}
use Rattle.meaning.specs.Values.{Birth, results_of, Id}
use Rattle.meaning.specs.Syntax.{Script}
use Rattle.meaning.specs.Runs.{Piece, piece}
use Rattle.meaning.specs.Meaning.{run_birth}
use Rattle.meaning.specs.Births.{Bearing, Part, part_at, IsNew, numbered}
use Rattle.meaning.specs.Ids.{BirthIn}
use Rattle.meaning.specs.Kinds.{ScriptChecks}
use Rattle.meaning.specs.KindLaw.{KindsOf}
use Rattle.meaning.specs.Readings.{read_birth, den, BirthsHold, IsBorn}
use Rattle.script_laws.proofs.KeptKinds.{law_of_kinds}
use Rattle.script_laws.proofs.Agreeing.{birth_same}
use Rattle.script_laws.proofs.Dens.{AllNamed, same, by_part}
use Rattle.script_laws.proofs.Ids.{births_keep}
use Rattle.script_laws.proofs.Given.{born_by_piece}
use Rattle.meaning_laws.specs.of_event_log.Entries.{Attempt, Entry, In, Refused, Opened, Begun, Born, Got, Printed, Ended, Accepted, Faulted, Resolved, Released}
use Rattle.meaning_laws.specs.of_event_log.Words.{births, born_in, own_births}
use Rattle.meaning_laws.specs.of_event_log.Rules.{Setting, Allowed, MayBear}
use Rattle.meaning_laws.proofs.of_event_log.WordLaws.{deeds, births_push}
use Rattle.meaning_laws.proofs.Good.{AllBorn, Told, Stands, GoodLog, births_hold, objects_born, spec_named}
use Rattle.meaning.proofs.BirthLaws.{first_is_made}
use Rattle.meaning_laws.proofs.Births.{fresh}
use Rattle.kind_laws.specs.Law.{HasKinds}
use Rattle.kind_laws.proofs.Numbers.{births_in, numbered_first}

-- each birth has kinds as read
abbrev pub Typed : Script → List Bearing → Type 0
Typed script bs = (o : Id) (p : Part) → part_at bs o ≡ Some p → HasKinds script (read_birth (den script bs) p.born.birth)

-- one more birth
module _ (script : Script) (bs : List Bearing) (x : Bearing) (new : IsNew bs x) where
  moved : (b : Birth) → BirthIn (IsBorn bs) b → HasKinds script (read_birth (den script bs) b) → HasKinds script (read_birth (den script (bs ++ x ∷ [])) b)
  moved b h k = subst (λ c. HasKinds script c) (birth_same (IsBorn bs) (den script bs) (den script (bs ++ x ∷ [])) (same script bs x new) b h) k

  typed_push : AllNamed bs → BirthIn (IsBorn bs) x.birth → Typed script bs → HasKinds script (read_birth (den script bs) x.birth) → Typed script (bs ++ x ∷ [])
  typed_push all named typed k o p e =
      by_part script bs x new o p (λ q c. HasKinds script (read_birth (den script (bs ++ x ∷ [])) c.born.birth)) e
      (λ h. moved p.born.birth (all o p h) (typed o p h)) (λ m. moved x.birth named k)

module _ (s : Setting) (checks : ScriptChecks s.script s.script) (log : List Entry) (g : GoodLog s.script log) (typed : Typed s.script (births log)) where
  born : (o : Id) (a : Attempt) (b : Birth) → MayBear s log o a b → Typed s.script (births log ++ record { object = o; birth = b } ∷ [])
  born o a b h =
      let script = s.script in
      let bs = births log in
      let reading = den script bs in
      let x : Bearing = record { object = o; birth = b } in
      let r = h.replays in
      let t : Told script bs r.spec (deeds a log) = subst (λ p. Stands script bs p (deeds a log)) r.born (g.told a) in
      let keeps = births_keep (IsBorn bs) script r.spec (spec_named script bs (λ a'. own_births a' log) (λ a'. deeds a' log) g a.object r.spec r.born) in
      let own : IsFirst (own_births a log ++ x ∷ []) (numbered h.base (piece (results_of r.spec) (run_birth script r.spec) h.base (deeds a log).answers).births) =
      subst (λ (q : Piece). IsFirst (own_births a log ++ x ∷ []) (numbered h.base q.births)) r.replayed h.own in
      let named : BirthIn (IsBorn bs) b =
      born_by_piece (IsBorn bs) (results_of r.spec) (run_birth script r.spec) h.base (deeds a log).answers (own_births a log) x keeps t.answers_in (objects_born bs (own_births a log) (g.born a)) own in
      let new = fresh script bs x (λ a'. own_births a' log) (λ a'. deeds a' log) g h.next named in
      let kind = typed a.object _ (g.grouped.whole a.object a.object r.spec r.born (first_is_made (record { object = a.object; birth = r.spec }))) in
      let kinds : KindsOf script reading r.spec kind.0 h.base (deeds a log).answers = law_of_kinds script checks reading r.spec kind.0 h.base (deeds a log).answers kind.1 t.fits.answers in
      let first = numbered_first (own_births a log) x h.base (piece (results_of r.spec) (run_birth script r.spec) h.base (deeds a log).answers).births own in
      let holds : BirthsHold reading script h.base (births_in (own_births a log)) = births_hold script bs h.base (births_in (own_births a log)) g.hold (subst (λ xs. AllBorn bs xs) first.0 (g.born a)) in
      typed_push script bs x new g.named named typed (kinds.bears (births_in (own_births a log)) b first.1 holds)

  silent : (e : Entry) → born_in e ≡ [] → Typed s.script (births (log ++ e ∷ []))
  silent e n = subst (λ bs. Typed s.script bs) (sym (births_push log e ∙ (ap (λ xs. births log ++ xs) n ∙ append-nil (births log)))) typed

  pub typed_step : (e : Entry) → Allowed s log e → Typed s.script (births (log ++ e ∷ []))
  typed_step (In x seat) h = silent (In x seat) refl
  typed_step (Refused code) h = silent (Refused code) refl
  typed_step (Opened w n) h = silent (Opened w n) refl
  typed_step (Begun a w) h = silent (Begun a w) refl
  typed_step (Born o a b) h = subst (λ bs. Typed s.script bs) (sym (births_push log (Born o a b))) (born o a b h)
  typed_step (Got a y c) h = silent (Got a y c) refl
  typed_step (Printed v) h = silent (Printed v) refl
  typed_step (Ended a c) h = silent (Ended a c) refl
  typed_step (Accepted a) h = silent (Accepted a) refl
  typed_step (Faulted a y f) h = silent (Faulted a y f) refl
  typed_step (Resolved o f) h = silent (Resolved o f) refl
  typed_step (Released o) h = silent (Released o) refl
