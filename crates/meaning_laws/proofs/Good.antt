-- What stays true of the births and deeds of a legal log as it grows.
use Rattle.std.proofs.Common.{◌≡◌, ℕ, zero, suc, ◌<◌, true, List, [], ◌∷◌, ◌++◌, length, map, Option, Some, None, refl, ap, ◌∙◌, subst}
use Rattle.std.specs.Prelude.{slice_get}
use Rattle.meaning.specs.Lists.{IsFirst}
use Rattle.meaning.specs.Values.{Value, Outcome, Birth, results_of, Completion, without_first, outcomes, outcome_at, Id}
use Rattle.meaning.specs.Syntax.{Script}
use Rattle.meaning.specs.Runs.{Run, serial_end, serial_trace, behind}
use Rattle.meaning.specs.Meaning.{run_birth}
use Rattle.meaning.specs.Births.{Bearing, birth_at, is_made_by, part_of, part_at, numbered, AreGrouped}
use Rattle.meaning.specs.Ids.{OutcomeIn, BirthIn, OutcomesIn, ValuesIn, ObjectsIn}
use Rattle.meaning.specs.Readings.{read, read_outcome, read_birth, end_under, BirthsHold, den, AllHold, IsBorn, NameEarlier}
use Rattle.meaning.specs.Law.{gets_of, prints_of, get_after}
use Rattle.script_laws.proofs.Agreeing.{outcomes_same, values_same, birth_same, outcomes_more, values_more}
use Rattle.meaning.proofs.BirthLaws.{outcomes_are, first_is_made}
use Rattle.script_laws.proofs.Dens.{AllNamed}
use Rattle.event_log.specs.Entries.{Attempt, Entry}
use Rattle.event_log.specs.Words.{births, next_serial, own_births, Lack, Content, Lacking}
use Rattle.event_log.proofs.WordLaws.{Deeds, deeds, nothing_done}
use Rattle.meaning_laws.proofs.Lacks.{LacksIn, lacks_same, lacks_more}
use Rattle.meaning_laws.proofs.Traces.{FaultsFit}

-- each object of these births is born as theirs
abbrev pub AllBorn : List Bearing → List Bearing → Type 0
AllBorn bs [] = Unit {0}
AllBorn bs (x ∷ xs) = ((o : Id) → is_made_by x o ≡ true → part_at bs o ≡ Some (part_of x o)) × AllBorn bs xs

abbrev pub AllOutcomesIn : (Id → Type 0) → List (List Outcome) → Type 0
AllOutcomesIn P [] = Unit {0}
AllOutcomesIn P (cs ∷ css) = OutcomesIn P cs × AllOutcomesIn P css

-- ends of a run of so many results whose whole was got and printed
abbrev pub EndsFit : ℕ → Run → List Outcome → List Value → List (List Outcome) → Type 0
EndsFit n run cs vs [] = Unit {0}
EndsFit n run cs vs (e ∷ es) =
    ((gets_of (serial_trace run) ≡ cs) × (prints_of (serial_trace run) ≡ vs) × (outcomes n (serial_end run) ≡ e)) × EndsFit n run cs vs es

-- answers, prints, ends and faults, all as read, beside the run
pub record Fits (script : Script) (n : ℕ) (spec : Birth) (cs : List Outcome) (vs : List Value) (es : List (List Outcome)) (fs : List Outcome) : Type 0 where
  pub answers : IsFirst cs (gets_of (serial_trace (run_birth script spec)))
  pub prints : IsFirst vs (prints_of (serial_trace (run_birth script spec)))
  pub ended : EndsFit n (run_birth script spec) cs vs es
  pub faulted : FaultsFit (get_after (length cs) (serial_trace (run_birth script spec))) fs

pub record Told (script : Script) (bs : List Bearing) (spec : Birth) (d : Deeds) : Type 0 where
  pub answers_in : OutcomesIn (IsBorn bs) d.answers
  pub prints_in : ValuesIn (IsBorn bs) d.prints
  pub ends_in : AllOutcomesIn (IsBorn bs) d.ends
  pub faults_in : LacksIn (IsBorn bs) d.faults
  pub order : d.answered ≡ map Content d.answers ++ map Lacking d.faults
  pub fits : Fits script (results_of spec) (read_birth (den script bs) spec) (map (read_outcome (den script bs)) d.answers) (map (read (den script bs)) d.prints) (map (map (read_outcome (den script bs))) d.ends) (map (λ (x : Lack). den script bs x.object) d.faults)

-- what is not born does nothing
abbrev pub Stands : Script → List Bearing → Option Birth → Deeds → Type 0
Stands script bs None d = d ≡ nothing_done
Stands script bs (Some spec) d = Told script bs spec d

pub record Good (script : Script) (bs : List Bearing) (own : Attempt → List Bearing) (did : Attempt → Deeds) : Type 0 where
  pub hold : AllHold script (den script bs) bs
  pub named : AllNamed bs
  pub earlier : NameEarlier [] bs
  pub bound : (o : Id) → IsBorn bs o → o.serial < next_serial o.owner bs
  pub grouped : AreGrouped bs
  pub born : (a : Attempt) → AllBorn bs (own a)
  pub told : (a : Attempt) → Stands script bs (birth_at bs a.object) (did a)

abbrev pub GoodLog : Script → List Entry → Type 0
GoodLog script log = Good script (births log) (λ a. own_births a log) (λ a. deeds a log)

-- births of the log as the law of replay wants them
-- what a birth names is born
pub spec_named : (script : Script) (bs : List Bearing) (own : Attempt → List Bearing) (did : Attempt → Deeds) → Good script bs own did → (o : Id) (b : Birth) → birth_at bs o ≡ Some b → BirthIn (IsBorn bs) b
spec_named script bs own did g o b e = g.named o _ (g.grouped.whole o o b e (first_is_made (record { object = o; birth = b })))

pub births_hold : (script : Script) (bs : List Bearing) (base : Id) (news : List Birth) → AllHold script (den script bs) bs → AllBorn bs (numbered base news) → BirthsHold (den script bs) script base news
births_hold script bs base [] hold h = tt
births_hold script bs base (b ∷ news) hold h =
    let x : Bearing = record { object = base; birth = b } in
    (outcomes_are x (den script bs) (end_under (den script bs) script b) (λ p m. hold p (part_of x p) (h.0 p m)), births_hold script bs (behind base b) news hold h.1)

pub objects_born : (bs xs : List Bearing) → AllBorn bs xs → ObjectsIn (IsBorn bs) xs
objects_born bs [] h = tt
objects_born bs (x ∷ xs) h = (λ o m. (part_of x o, h.0 o m), objects_born bs xs h.1)

pub fits_parts : (script : Script) (n : ℕ) (b b' : Birth) (cs cs' : List Outcome) (vs vs' : List Value) (es es' : List (List Outcome)) (fs fs' : List Outcome) → b ≡ b' → cs ≡ cs' → vs ≡ vs' → es ≡ es' → fs ≡ fs' → Fits script n b cs vs es fs → Fits script n b' cs' vs' es' fs'
fits_parts script n b b' cs cs' vs vs' es es' fs fs' eb ec ev ee ef h =
    subst (λ x. Fits script n x cs' vs' es' fs') eb
    (subst (λ x. Fits script n b x vs' es' fs') ec
    (subst (λ x. Fits script n b cs x es' fs') ev
    (subst (λ x. Fits script n b cs vs x fs') ee
    (subst (λ x. Fits script n b cs vs es x) ef h))))

pub told_nothing : (script : Script) (bs : List Bearing) (spec : Birth) → Told script bs spec nothing_done
told_nothing script bs spec = record {
  answers_in = tt;
  prints_in = tt;
  ends_in = tt;
  faults_in = tt;
  order = refl;
  fits = record { answers = tt; prints = tt; ended = tt; faulted = tt };
}

-- more births, under which the ids born so far read alike
module _ (script : Script) (bs cs : List Bearing) (sub : (o : Id) → IsBorn bs o → IsBorn cs o) (same : (o : Id) → IsBorn bs o → den script bs o ≡ den script cs o) where
  all_more : (css : List (List Outcome)) → AllOutcomesIn (IsBorn bs) css → AllOutcomesIn (IsBorn cs) css
  all_more [] h = tt
  all_more (ds ∷ css) h = (outcomes_more (IsBorn bs) (IsBorn cs) sub ds h.0, all_more css h.1)

  all_same : (css : List (List Outcome)) → AllOutcomesIn (IsBorn bs) css → map (map (read_outcome (den script bs))) css ≡ map (map (read_outcome (den script cs))) css
  all_same [] h = refl
  all_same (ds ∷ css) h = let e = outcomes_same (IsBorn bs) (den script bs) (den script cs) same ds h.0 in let f = all_same css h.1 in cc

  pub told_more : (spec : Birth) (d : Deeds) → BirthIn (IsBorn bs) spec → Told script bs spec d → Told script cs spec d
  told_more spec d h t = record {
    answers_in = outcomes_more (IsBorn bs) (IsBorn cs) sub d.answers t.answers_in;
    prints_in = values_more (IsBorn bs) (IsBorn cs) sub d.prints t.prints_in;
    ends_in = all_more d.ends t.ends_in;
    faults_in = lacks_more (IsBorn bs) (IsBorn cs) sub d.faults t.faults_in;
    order = t.order;
    fits = fits_parts script (results_of spec) _ _ _ _ _ _ _ _ _ _
        (birth_same (IsBorn bs) (den script bs) (den script cs) same spec h)
        (outcomes_same (IsBorn bs) (den script bs) (den script cs) same d.answers t.answers_in)
        (values_same (IsBorn bs) (den script bs) (den script cs) same d.prints t.prints_in)
        (all_same d.ends t.ends_in)
        (lacks_same (IsBorn bs) (den script bs) (den script cs) same d.faults t.faults_in)
        t.fits;
  }

-- one end among them
pub end_at : (n : ℕ) (run : Run) (cs : List Outcome) (vs : List Value) (f : List Outcome → List Outcome) (es : List (List Outcome)) (k : ℕ) (ds : List Outcome) → EndsFit n run cs vs (map f es) → slice_get es k ≡ Some ds →
    (gets_of (serial_trace run) ≡ cs) × (prints_of (serial_trace run) ≡ vs) × (outcomes n (serial_end run) ≡ f ds)
end_at n run cs vs f [] k ds h e = absurd (cc)
end_at n run cs vs f (d ∷ es) zero ds h e = let same : d ≡ ds = cc in (h.0.0, h.0.1, h.0.2 ∙ ap f same)
end_at n run cs vs f (d ∷ es) (suc k) ds h e = end_at n run cs vs f es k ds h.1 e

pub end_in : (P : Id → Type 0) (es : List (List Outcome)) (k : ℕ) (ds : List Outcome) → AllOutcomesIn P es → slice_get es k ≡ Some ds → OutcomesIn P ds
end_in P [] k ds h e = absurd (cc)
end_in P (d ∷ es) zero ds h e = let same : d ≡ ds = cc in subst (λ x. OutcomesIn P x) same h.0
end_in P (d ∷ es) (suc k) ds h e = end_in P es k ds h.1 e

pub outcome_in : (P : Id → Type 0) (es : List Outcome) (k : ℕ) (c : Outcome) → OutcomesIn P es → slice_get es k ≡ Some c → OutcomeIn P c
outcome_in P [] k c h e = absurd (cc)
outcome_in P (d ∷ es) zero c h e = let same : d ≡ c = cc in subst (λ x. OutcomeIn P x) same h.0
outcome_in P (d ∷ es) (suc k) c h e = outcome_in P es k c h.1 e

-- one content among the outcomes of a run
pub result_at : (f : Outcome → Outcome) (n : ℕ) (e : Completion) (cs : List Outcome) (i : ℕ) (c : Outcome) → outcomes n e ≡ map f cs → slice_get cs i ≡ Some c → outcome_at i e ≡ f c
result_at f n e [] i c h k = absurd (cc)
result_at f zero e (d ∷ cs) i c h k = absurd (cc)
result_at f (suc n) e (d ∷ cs) zero c h k = let same : d ≡ c = cc in cc
result_at f (suc n) e (d ∷ cs) (suc i) c h k = let rest : outcomes n (without_first e) ≡ map f cs = cc in result_at f n (without_first e) cs i c rest k
