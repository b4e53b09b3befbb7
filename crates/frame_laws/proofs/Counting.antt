-- The steps of an attempt, as answers come in.
use Rattle.std.proofs.Common.{◌≡◌, ℕ, zero, suc, List, [], ◌∷◌, ◌++◌, refl, sym, ap, ◌∙◌, subst}
use Rattle.meaning.specs.Values.{Outcome, Val, Trapped}
use Rattle.meaning.specs.Syntax.{Script}
use Rattle.frame_laws.specs.Machine as machine
use Rattle.frame_laws.specs.Machine.{State, Code, Act, Silent, Asks, Bore, Shows, act}
use Rattle.frame_laws.specs.Law.{code_of}
use Rattle.frame_laws.specs.Steps.{Place, Progress, StandsAt, StopsWith, count_at, gets, comes_of, one_on, after_some, beginning, StopsFrom, HasSteps}
use Rattle.frame_laws.specs.Resuming.{Attempt, Deeds, Came}

abbrev pub place : State → Deeds → List Outcome → Place
place now deeds answers = record { state = now; next = deeds.next; answers = answers; steps = deeds.steps }

-- with further answers
abbrev longer : Place → List Outcome → Place
longer p more = record { state = p.state; next = p.next; answers = p.answers ++ more; steps = p.steps }

stands_longer : (p q : Place) (more : List Outcome) → StandsAt p ≡ StandsAt q → StandsAt (longer p more) ≡ StandsAt (longer q more)
stands_longer p q more e = let same : p ≡ q = cc in ap (λ x. StandsAt (longer x more)) same

gets_longer : (p q : Place) (to steps : ℕ) (answers more : List Outcome) → gets p to steps answers ≡ StandsAt q →
    gets (longer p more) to steps (answers ++ more) ≡ StandsAt (longer q more)
gets_longer p q to steps [] more e = absurd (cc)
gets_longer p q to steps (Trapped t ∷ left) more e = absurd (cc)
gets_longer p q to steps (Val v ∷ left) more e = stands_longer _ q more e

comes_longer : (p q : Place) (steps : ℕ) (more : List Outcome) (a : Act) → comes_of p steps a ≡ StandsAt q →
    comes_of (longer p more) steps a ≡ StandsAt (longer q more)
comes_longer p q steps more (Silent there) e = stands_longer _ q more e
comes_longer p q steps more (machine.Over c) e = absurd (cc)
comes_longer p q steps more (Shows v) e = stands_longer _ q more e
comes_longer p q steps more (Bore b to) e = stands_longer _ q more e
comes_longer p q steps more (Asks r to) e = gets_longer p q to steps p.answers more e

module _ (code : Code) (limit : ℕ) (more : List Outcome) where
  -- on further answers it comes to the same place, with those left
  comes_so : (n : ℕ) (p q : Place) → after_some code limit n p ≡ StandsAt q → after_some code limit n (longer p more) ≡ StandsAt (longer q more)
  comes_so zero p q e = stands_longer p q more e
  comes_so (suc n) p q e = one_more (λ r is. comes_so n p r is) (after_some code limit n p) refl e
    where
      one_more : ((r : Place) → after_some code limit n p ≡ StandsAt r → after_some code limit n (longer p more) ≡ StandsAt (longer r more)) →
          (x : Progress) → after_some code limit n p ≡ x → one_on code limit x ≡ StandsAt q →
          one_on code limit (after_some code limit n (longer p more)) ≡ StandsAt (longer q more)
      one_more before (StandsAt r) is f =
          ap (one_on code limit) (before r is) ∙ comes_longer r q (count_at code r.state r.steps) more (act code limit r.state) f
      one_more before (StopsWith k) is f = absurd (cc)

module _ (script : Script) (limit : ℕ) (attempt : Attempt) (deeds : Deeds) (now : State) (came : Came script limit attempt deeds now)
    (answers : List Outcome) (a : Act) (e : act (code_of script) limit now ≡ a) where
  abbrev start : Place
  start = beginning came.first attempt.base (attempt.answers ++ answers)

  -- one instruction further
  pub one_on_more : after_some (code_of script) limit (suc came.count) start ≡
      comes_of (place now deeds answers) (count_at (code_of script) now deeds.steps) a
  one_on_more =
      ap (one_on (code_of script) limit) (comes_so (code_of script) limit answers came.count (beginning came.first attempt.base attempt.answers)
      (place now deeds []) came.comes)
      ∙ ap (comes_of (place now deeds answers) (count_at (code_of script) now deeds.steps)) e

  -- it stops there
  pub stops_so : (steps : ℕ) → comes_of (place now deeds answers) (count_at (code_of script) now deeds.steps) a ≡ StopsWith steps →
      HasSteps script attempt.spec attempt.base (attempt.answers ++ answers) steps
  stops_so steps c =
      subst (λ o. StopsFrom script attempt.spec attempt.base (attempt.answers ++ answers) o steps) (sym came.begins)
      (suc came.count, subst (λ l. after_some (code_of script) l (suc came.count) start ≡ StopsWith steps) came.limited (one_on_more ∙ c))
