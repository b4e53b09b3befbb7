-- A frame that is kept fits the job of its attempt.
use Rattle.std.proofs.Common.{◌≡◌, ◌+◌, List, [], ◌∷◌, ◌++◌, length, refl, sym, ap, ◌∙◌, subst, arith}
use Rattle.std.proofs.lemmas.List.{length-append}
use Rattle.meaning.specs.Lists.{IsFirst}
use Rattle.meaning.specs.Values as meant
use Rattle.meaning.specs.Runs.{Piece, piece}
use Rattle.meaning.specs.Meaning.{replay}
use Rattle.meaning.specs.Syntax.{Script}
use Rattle.frames.specs.Courses.{Past}
use Rattle.frames.specs.Frames.{IsWaiting}
use Rattle.frames.specs.declared.frame.Frame.{Frame}
use Rattle.segment.specs.Frames.{Fits, WaitsAfter}
use Rattle.segment.specs.Jobs.{Done, IsBegun, JobParts, replay_of, whole_of}
use Rattle.kept_frames.specs.Known.{Agrees, IsAfter, IsNext, IsShaped, KnownData, WaitsFor}

head_same : {X : Type 0} (x y : X) (xs ys : List X) → x ∷ xs ≡ y ∷ ys → x ≡ y
head_same x y xs ys e = cc

tail_same : {X : Type 0} (x y : X) (xs ys : List X) → x ∷ xs ≡ y ∷ ys → xs ≡ ys
tail_same x y xs ys e = cc

-- two beginnings of one list that are as long are the same
beginnings_same : {X : Type 0} (xs ys zs rest : List X) → IsFirst xs zs → zs ≡ ys ++ rest → length xs ≡ length ys → xs ≡ ys
beginnings_same [] [] zs rest first e n = refl
beginnings_same [] (y ∷ ys) zs rest first e n = absurd (omega (arith, n))
beginnings_same (x ∷ xs) [] zs rest first e n = absurd (omega (arith, n))
beginnings_same (x ∷ xs) (y ∷ ys) [] rest first e n = absurd first
beginnings_same (x ∷ xs) (y ∷ ys) (z ∷ zs) rest first e n =
    let heads : x ≡ y = sym first.0 ∙ head_same z y zs (ys ++ rest) e in
    let tails : xs ≡ ys = beginnings_same xs ys zs rest first.1 (tail_same z y zs (ys ++ rest) e) (omega (arith, n)) in
    ap (λ v. v ∷ xs) heads ∙ ap (λ vs. y ∷ vs) tails

abbrev past : List meant.Outcome → List meant.Birth → List meant.Value → Past
past cs bs vs = record { answers = cs; births = bs; prints = vs }

same_past : (cs ds : List meant.Outcome) (xs ys : List meant.Birth) (vs ws : List meant.Value) → cs ≡ ds → xs ≡ ys → vs ≡ ws → past cs xs vs ≡ past ds ys ws
same_past cs ds xs ys vs ws ec eb ev = ap (λ x. past x xs vs) ec ∙ ap (λ x. past ds x vs) eb ∙ ap (λ x. past ds ys x) ev

module _ (script : Script) (k : KnownData) (f : Frame) where
  moved : (b : meant.Birth) (o : meant.Id) (x y : Past) → k.spec ≡ b → k.base ≡ o → x ≡ y → IsWaiting script k.spec k.base x f →
      IsWaiting script b o y f
  moved b o x y eb eo ey waits =
      subst (λ c. IsWaiting script c o y f) eb
      (subst (λ c. IsWaiting script k.spec c y f) eo (subst (λ c. IsWaiting script k.spec k.base c f) ey waits))

  -- what a job's task does on the job's answers goes on from what it did before the frame
  goes_on : (j : JobParts) → (waits : WaitsFor script k f) → (is : IsNext k j) →
      (p : Piece) × ((replay_of script j).births ≡ waits.births ++ p.births) × ((replay_of script j).prints ≡ waits.prints ++ p.prints)
  goes_on j waits is =
      let c = is.answer in
      let left = waits.waits.stood.left (c ∷ []) in
      let answers : j.answers ≡ k.answers ++ c ∷ [] = is.ends ∙ ap (λ cs. cs ++ c ∷ []) (sym is.answers) in
      let same : replay_of script j ≡ replay script k.spec k.base (k.answers ++ c ∷ []) =
      ap (λ b. replay script b j.base (j.answers)) (sym is.spec)
      ∙ ap (λ o. replay script k.spec o (j.answers)) (sym is.base)
      ∙ ap (replay script k.spec k.base) answers in
      let rest = piece (meant.results_of k.spec) waits.waits.stood.run f.next (c ∷ []) in
      (rest, ap (λ (p : Piece). p.births) (same ∙ left), ap (λ (p : Piece). p.prints) (same ∙ left))

  pub fits_next : (j : JobParts) → WaitsFor script k f → IsNext k j → IsBegun script j → Fits script j f
  fits_next j waits is begun =
      let on = goes_on j waits is in
      let bs : j.births ≡ waits.births =
      beginnings_same j.births waits.births (replay_of script j).births on.0.births begun.births on.1 (sym is.births ∙ sym waits.borne) in
      let vs : j.prints ≡ waits.prints =
      beginnings_same j.prints waits.prints (replay_of script j).prints on.0.prints begun.prints on.2 (sym is.prints ∙ sym waits.printed) in
      record {
        earlier = is.earlier;
        answer = is.answer;
        answers = is.ends;
        waits = moved j.spec j.base _ _ is.spec is.base
            (same_past k.answers is.earlier waits.births j.births waits.prints j.prints
            is.answers (sym bs) (sym vs))
            waits.waits;
      }

  pub waits_after : (d : Done) → WaitsAfter script d f → IsAfter k d → WaitsFor script k f
  waits_after d waits is = record {
    births = (whole_of d).births;
    prints = (whole_of d).prints;
    borne = length-append d.job.births d.births ∙ sym is.births;
    printed = length-append d.job.prints d.prints ∙ sym is.prints;
    waits =
        subst (λ x. IsWaiting script x k.base (past k.answers (whole_of d).births (whole_of d).prints) f) (sym is.spec)
        (subst (λ x. IsWaiting script d.job.spec x (past k.answers (whole_of d).births (whole_of d).prints) f) (sym is.base)
        (subst (λ x. IsWaiting script d.job.spec d.job.base (past x (whole_of d).births (whole_of d).prints) f) (sym is.answers) waits));
  }

-- ---- the job of a known attempt, told by how many answers it has

first_of : {X : Type 0} (xs ys more : List X) → IsFirst xs (ys ++ more) → length xs ≡ length ys → xs ≡ ys
first_of xs ys more h e = beginnings_same xs ys (ys ++ more) more h refl e

-- a job of that shape is the attempt's next, where its answers go on from those known
pub next_so : (k : KnownData) (j : JobParts) (earlier : List meant.Outcome) (answer : meant.Outcome) → j.answers ≡ earlier ++ answer ∷ [] → IsShaped k j earlier → Agrees k j → IsNext k j
next_so k j earlier answer ends is agrees =
    let one_more : length k.answers + 1 ≡ length j.answers = ap (λ m. m + 1) is.answers ∙ sym (ap length ends ∙ length-append earlier (answer ∷ [])) in
    let first = subst (IsFirst k.answers) ends (agrees is.attempt one_more) in
    record {
      earlier = earlier;
      answer = answer;
      ends = ends;
      attempt = is.attempt;
      base = is.base;
      spec = is.spec;
      births = is.births;
      prints = is.prints;
      answers = first_of k.answers earlier (answer ∷ []) first is.answers;
    }
