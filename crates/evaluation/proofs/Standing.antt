-- Where an attempt stopped, as the replay has it, and what comes of converting that.
use Rattle.std.proofs.Common.{◌≡◌, ℕ, suc, ◌+◌, List, [], ◌∷◌, ◌++◌, map, Result, Ok, Err, IfOk, IfErr, IfSome, Option, Some, None, Box, refl, sym, ap, ◌∙◌, subst, arith}
use Rattle.std.specs.Prelude.{IsErrAnd}
use Rattle.std.specs.declared.alloc.Global.{Global}
use Rattle.meaning.specs.Values as meant
use Rattle.meaning.specs.Values.{Name, Id, Argument, Outcome, Task}
use Rattle.meaning.specs.Syntax.{Script}
use Rattle.meaning.specs.Meaning.{replay}
use Rattle.task_spec.specs.Births.{birth_of}
use Rattle.task_spec.specs.declared.birth.Birth.{Birth as TBirth}
use Rattle.meaning.specs.Runs.{Stop}
use Rattle.meaning.specs.Runs as runs
use Rattle.frames.specs.Values.{value_of as run_value_of}
use Rattle.frames.specs.Machines.{made_of}
use Rattle.frames.specs.Courses.{Past, no_past}
use Rattle.frames.specs.Frames.{IsWaiting, KeepsFrame, past_behind}
use Rattle.frames.specs.Tasks.{stopped_by, piece_at, Halts}
use Rattle.frames.specs.declared.attempt.Attempt.{Attempt}
use Rattle.frames.specs.declared.halt.Halt.{Halt}
use Rattle.frames.specs.declared.frame.Frame.{Frame}
use Rattle.evaluation.specs.TaskValues.{IsTaskStop, IsTaskPiece, AreTaskBirths, EachTaskValue}
use Rattle.evaluation.specs.declared.piece.Piece.{Piece}
use Rattle.evaluation.specs.Pieces.{IsBrokenEnd, IsBrokenStop, IsNoTaskStop, IsPieceOf, Keeps, Stands, past_with, piece_of, stop_of}

-- an error that a `?` hands on
pub handed_on : {A E : Type 0} (P : E → Type 0) (r : Result A E) (h : E) → IsErrAnd r (λ e. e ≡ h) → P h → IfErr r P
handed_on P (Ok v) h is p = tt
handed_on P (Err e) h is p = subst P (sym is) p

-- what comes of a call that ends well, by two of its clauses
pub both_ok : {A B : Type 0} (P Q R : A → Type 0) (r : Result A B) → ((a : A) → P a → Q a → R a) → IfOk r P → IfOk r Q → IfOk r R
both_ok P Q R (Ok a) f p q = f a p q
both_ok P Q R (Err b) f p q = p

-- of a task with so many results beside the first
pub stopped_of : (h : Halt) (spec : meant.Birth) (others : ℕ) (s : Stop) → meant.others_of spec ≡ others → stopped_by (others + 1) h ≡ Some s →
    stopped_by (meant.results_of spec) h ≡ Some s
stopped_of h spec others s counted is =
    let many : suc others ≡ others + 1 = omega arith in
    ap (λ n. stopped_by (suc n) h) counted ∙ ap (λ n. stopped_by n h) many ∙ is

-- where it stopped
pub stop_stands : (n : ℕ) (past : Past) (a : Attempt) (q : runs.Piece) (s : Stop) → Stands n past a q → stopped_by n a.halt ≡ Some s → q.stop ≡ s
stop_stands n past a q s stands e = ap (λ (p : runs.Piece). p.stop) (stands s e)

not_task_at : (n : ℕ) (past : Past) (a : Attempt) (q : runs.Piece) (o : Option Stop) → stopped_by n a.halt ≡ o → IsNoTaskStop o → Stands n past a q →
    IsTaskPiece q → ⊥
not_task_at n past a q None e bars stands plain = absurd bars
not_task_at n past a q (Some s) e bars stands plain = bars (subst IsTaskStop (stop_stands n past a q s stands e) plain.stop)

pub not_task : (n : ℕ) (past : Past) (a : Attempt) (q : runs.Piece) → IsNoTaskStop (stopped_by n a.halt) → Stands n past a q → IsTaskPiece q → ⊥
not_task n past a q bars stands plain = not_task_at n past a q (stopped_by n a.halt) refl bars stands plain

broken_at : (n : ℕ) (past : Past) (a : Attempt) (q : runs.Piece) (o : Option Stop) → stopped_by n a.halt ≡ o → IsBrokenEnd o → Stands n past a q →
    IsBrokenStop q.stop
broken_at n past a q None e broken stands = absurd broken
broken_at n past a q (Some s) e broken stands = subst IsBrokenStop (sym (stop_stands n past a q s stands e)) broken

pub broken_stop : (n : ℕ) (past : Past) (a : Attempt) (q : runs.Piece) → IsBrokenEnd (stopped_by n a.halt) → Stands n past a q → IsBrokenStop q.stop
broken_stop n past a q broken stands = broken_at n past a q (stopped_by n a.halt) refl broken stands

-- what comes behind
pub births_behind : (xs ys : List meant.Birth) → AreTaskBirths (xs ++ ys) → AreTaskBirths ys
births_behind [] ys h = h
births_behind (x ∷ xs) ys h = births_behind xs ys h.1

pub values_behind : (xs ys : List meant.Value) → EachTaskValue (xs ++ ys) → EachTaskValue ys
values_behind [] ys h = h
values_behind (x ∷ xs) ys h = values_behind xs ys h.1

-- a task's replay, by what was made of its birth
pub stands_so : (script : Script) (spec : TBirth) (g : Name) (args : List Argument) (depth retries others : ℕ) (base : Id)
    (given answers : List Outcome) (a : Attempt) → Halts script (Task g args depth retries others) base given a →
    birth_of spec ≡ Task g args depth retries others → given ≡ answers → Stands (others + 1) no_past a (replay script (birth_of spec) base answers)
stands_so script spec g args depth retries others base given answers a halts is same =
    λ s e. ap (λ b. replay script b base answers) is ∙ ap (replay script (Task g args depth retries others) base) (sym same)
    ∙ halts s (stopped_of a.halt (Task g args depth retries others) others s refl e)

-- the piece of an attempt
module _ (n : ℕ) (p : Piece) (a : Attempt) (of : IsPieceOf n p a) where
  pub piece_is : piece_of p ≡ piece_at a (stop_of p.outcomes.stop)
  piece_is =
      ap (λ bs. record { births = bs; prints = p.outcomes.prints; stop = stop_of p.outcomes.stop }) of.births
      ∙ ap (λ vs. record { births = map made_of a.births.items; prints = vs; stop = stop_of p.outcomes.stop }) of.prints

  pub kept_so : (script : Script) (b c : meant.Birth) (base : Id) (past : Past) (given answers : List Outcome) → c ≡ b → given ≡ answers →
      p.frame ≡ a.frame → KeepsFrame script b base past given a → Keeps script c base past answers p
  kept_so script b c base past given answers is same frame keeps =
      let P : meant.Birth → Past → Option (Box Frame Global) → Type 0 = λ x y f. IfSome f (λ b. IsWaiting script x base y b.value) in
      subst (P c (past_with past answers p)) (sym frame)
      (subst (λ y. P c y a.frame) past_is (subst (λ x. P x (past_behind past given a) a.frame) (sym is) keeps))
    where
      past_is : past_behind past given a ≡ past_with past answers p
      past_is =
          ap (λ os. record {
            answers = past.answers ++ os;
            births = past.births ++ map made_of a.births.items;
            prints = past.prints ++ map run_value_of a.prints.items;
          }) same
          ∙ ap (λ bs. record { answers = past.answers ++ answers; births = past.births ++ bs; prints = past.prints ++ map run_value_of a.prints.items })
          (sym of.births)
          ∙ ap (λ vs. record { answers = past.answers ++ answers; births = past.births ++ p.outcomes.births; prints = past.prints ++ vs })
          (sym of.prints)
