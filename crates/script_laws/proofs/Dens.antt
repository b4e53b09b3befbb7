-- One more birth: what it leaves as it was, and that the reading of births is the one under which they hold.
use Rattle.std.proofs.Common.{◌≡◌, ◌-◌, true, List, [], ◌∷◌, ◌++◌, Option, Some, None, refl, sym, ap, ◌∙◌, subst, append-nil, append_assoc}
use Rattle.std.specs.Prelude.{if◌then◌else◌, pos}
use Rattle.meaning.specs.Values.{outcome_at, Id, Val, Int}
use Rattle.meaning.specs.Syntax.{Script}
use Rattle.meaning.specs.Runs.{serial_end}
use Rattle.meaning.specs.Meaning.{run_birth}
use Rattle.meaning.specs.Readings.{Reading, with_outcomes, end_under, outcome_under, den_from, den, AllHold, IsBorn, NameEarlier, DenIsTheReading}
use Rattle.meaning.specs.Births.{Bearing, is_made_by, Part, part_of, part_at, IsNew}
use Rattle.meaning.specs.Ids.{BirthIn}
use Rattle.script_laws.proofs.Agreeing.{birth_same, birth_more}
use Rattle.meaning.proofs.BirthLaws.{at_test, part_kept, part_by, part_new}

den_from-push : (script : Script) (r : Reading) (xs : List Bearing) (x : Bearing) → den_from script r (xs ++ x ∷ []) ≡ with_outcomes (den_from script r xs) x (end_under (den_from script r xs) script x.birth)
den_from-push script r [] x = refl
den_from-push script r (y ∷ xs) x = den_from-push script (with_outcomes r y (end_under r script y.birth)) xs x

den-push : (script : Script) (xs : List Bearing) (x : Bearing) → den script (xs ++ x ∷ []) ≡ with_outcomes (den script xs) x (end_under (den script xs) script x.birth)
den-push script xs x = den_from-push script (λ o. Val (Int (pos 0))) xs x

-- each birth names only what is born
abbrev pub AllNamed : List Bearing → Type 0
AllNamed bs = (o : Id) (p : Part) → part_at bs o ≡ Some p → BirthIn (IsBorn bs) p.born.birth

module _ (script : Script) (bs : List Bearing) (x : Bearing) (fresh : IsNew bs x) where
  pub kept : (o : Id) (p : Part) → part_at bs o ≡ Some p → part_at (bs ++ x ∷ []) o ≡ Some p
  kept = part_kept bs x fresh

  pub sub : (o : Id) → IsBorn bs o → IsBorn (bs ++ x ∷ []) o
  sub o h = (h.0, kept o h.0 h.1)

  pub same : (o : Id) → IsBorn bs o → den script bs o ≡ den script (bs ++ x ∷ []) o
  same o h =
      let r = den script bs in
      let e = end_under r script x.birth in
      subst (λ (q : Reading). r o ≡ q o) (sym (den-push script bs x))
      (at_test (λ t. r o ≡ (if t then outcome_at (o.serial - x.object.serial) e else r o)) (is_made_by x o)
      (λ m. let no = fresh o m in let yes = h.1 in absurd (cc))
      (λ m. refl))

  pub by_part : (o : Id) (p : Part) (R : Id → Part → Type 0) → part_at (bs ++ x ∷ []) o ≡ Some p → (part_at bs o ≡ Some p → R o p) → (is_made_by x o ≡ true → R o (part_of x o)) → R o p
  by_part = part_by bs x fresh

  pub new_born : (o : Id) → is_made_by x o ≡ true → part_at (bs ++ x ∷ []) o ≡ Some (part_of x o)
  new_born = part_new bs x fresh

  here : (o : Id) → is_made_by x o ≡ true → den script (bs ++ x ∷ []) o ≡ outcome_under script (den script bs) (part_of x o)
  here o m =
      let r = den script bs in
      let e = end_under r script x.birth in
      let at : with_outcomes r x e o ≡ outcome_at (o.serial - x.object.serial) e = ap (λ t. if t then outcome_at (o.serial - x.object.serial) e else r o) m in
      ap (λ (q : Reading). q o) (den-push script bs x) ∙ at

  module _ (named : BirthIn (IsBorn bs) x.birth) (all : AllNamed bs) where
    pub holds_push : AllHold script (den script bs) bs → AllHold script (den script (bs ++ x ∷ [])) (bs ++ x ∷ [])
    holds_push hold o p e = by_part o p (λ q c. den script (bs ++ x ∷ []) q ≡ outcome_under script (den script (bs ++ x ∷ [])) c) e
        (λ h. sym (same o (p, h)) ∙ hold o p h ∙ ap (λ b'. outcome_at p.place (serial_end (run_birth script b'))) (birth_same (IsBorn bs) (den script bs) (den script (bs ++ x ∷ [])) same p.born.birth (all o p h)))
        (λ m. here o m ∙ ap (λ b'. outcome_at (o.serial - x.object.serial) (serial_end (run_birth script b'))) (birth_same (IsBorn bs) (den script bs) (den script (bs ++ x ∷ [])) same x.birth named))

    pub named_push : AllNamed (bs ++ x ∷ [])
    named_push o p e = by_part o p (λ q c. BirthIn (IsBorn (bs ++ x ∷ [])) c.born.birth) e
        (λ h. birth_more (IsBorn bs) (IsBorn (bs ++ x ∷ [])) sub p.born.birth (all o p h))
        (λ m. birth_more (IsBorn bs) (IsBorn (bs ++ x ∷ [])) sub x.birth named)

    -- a reading that agrees so far, and under which the new birth holds
    agree_push : (r : Reading) → ((o : Id) → IsBorn bs o → r o ≡ den script bs o) → ((o : Id) → is_made_by x o ≡ true → r o ≡ outcome_under script r (part_of x o)) → (o : Id) → IsBorn (bs ++ x ∷ []) o → r o ≡ den script (bs ++ x ∷ []) o
    agree_push r agree hold o h = by_part o h.0 (λ q c. r q ≡ den script (bs ++ x ∷ []) q) h.1
        (λ e. agree o (h.0, e) ∙ same o (h.0, e))
        (λ m. hold o m ∙ ap (λ b'. outcome_at (o.serial - x.object.serial) (serial_end (run_birth script b'))) (birth_same (IsBorn bs) r (den script bs) agree x.birth named) ∙ sym (here o m))

-- what stands among the first births stands among all
part_at-append : (xs ys : List Bearing) (o : Id) (p : Part) → part_at xs o ≡ Some p → part_at (xs ++ ys) o ≡ Some p
part_at-append [] ys o p e = absurd (cc)
part_at-append (x ∷ xs) ys o p e =
    let r = λ (e' : part_at xs o ≡ Some p). part_at-append xs ys o p e' in
    at_test (λ t. (if t then Some (part_of x o) else part_at xs o) ≡ Some p → (if t then Some (part_of x o) else part_at (xs ++ ys) o) ≡ Some p) (is_made_by x o) (λ _ k. k) (λ _ k. r k) e

module _ (script : Script) where
  holds_all : (before xs : List Bearing) → NameEarlier before xs → AllNamed before → AllHold script (den script before) before → AllHold script (den script (before ++ xs)) (before ++ xs)
  holds_all before [] n all h = subst (λ bs. AllHold script (den script bs) bs) (sym (append-nil before)) h
  holds_all before (x ∷ xs) n all h =
      subst (λ bs. AllHold script (den script bs) bs) (append_assoc before (x ∷ []) xs)
      (holds_all (before ++ x ∷ []) xs n.2 (named_push script before x n.0 n.1 all) (holds_push script before x n.0 n.1 all h))

  agrees_all : (r : Reading) (before xs : List Bearing) → NameEarlier before xs → AllNamed before → ((o : Id) → IsBorn before o → r o ≡ den script before o) → AllHold script r (before ++ xs) →
      (o : Id) → IsBorn (before ++ xs) o → r o ≡ den script (before ++ xs) o
  agrees_all r before [] n all agree hold =
      subst (λ bs. (o : Id) → IsBorn bs o → r o ≡ den script bs o) (sym (append-nil before)) agree
  agrees_all r before (x ∷ xs) n all agree hold =
      let e = append_assoc before (x ∷ []) xs in
      let hold' : AllHold script r ((before ++ x ∷ []) ++ xs) = subst (λ bs. AllHold script r bs) (sym e) hold in
      let holds_here = λ (o : Id) (m : is_made_by x o ≡ true). hold' o (part_of x o) (part_at-append (before ++ x ∷ []) xs o (part_of x o) (new_born script before x n.0 o m)) in
      subst (λ bs. (o : Id) → IsBorn bs o → r o ≡ den script bs o) e
      (agrees_all r (before ++ x ∷ []) xs n.2 (named_push script before x n.0 n.1 all) (agree_push script before x n.0 n.1 all r agree holds_here) hold')

  -- all others keep what the first reading says
  others_keep : (r : Reading) (xs : List Bearing) (o : Id) → part_at xs o ≡ None → den_from script r xs o ≡ r o
  others_keep r [] o e = refl
  others_keep r (x ∷ xs) o e =
      let c = end_under r script x.birth in
      let d = outcome_at (o.serial - x.object.serial) c in
      let rest = λ (e' : part_at xs o ≡ None). others_keep (with_outcomes r x c) xs o e' in
      at_test (λ t. (if t then Some (part_of x o) else part_at xs o) ≡ None → (part_at xs o ≡ None → den_from script (with_outcomes r x c) xs o ≡ (if t then d else r o)) → den_from script (with_outcomes r x c) xs o ≡ r o) (is_made_by x o)
      (λ _ k f. absurd (cc))
      (λ _ k f. f k)
      e rest

  only_by : (r : Reading) (bs : List Bearing) (o : Id) (p : Option Part) → part_at bs o ≡ p → ((q : Id) → IsBorn bs q → r q ≡ den script bs q) → (part_at bs o ≡ None → r o ≡ Val (Int (pos 0))) → r o ≡ den script bs o
  only_by r bs o None e agree zeros = zeros e ∙ sym (others_keep (λ _. Val (Int (pos 0))) bs o e)
  only_by r bs o (Some p) e agree zeros = agree o (p, e)

pub den_is_the_reading : DenIsTheReading
den_is_the_reading script bs n = (
  holds_all script [] bs n (λ o p e. absurd (cc)) (λ o p e. absurd (cc)),
  others_keep script (λ _. Val (Int (pos 0))) bs,
  λ r hold zeros o. only_by script r bs o (part_at bs o) refl (agrees_all script r [] bs n (λ q p e. absurd (cc)) (λ q h. let e = h.1 in absurd (cc)) hold) (zeros o),
)
