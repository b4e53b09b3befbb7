-- A run in pieces that is given no outcome in a value gives none.
use Rattle.std.proofs.Common.{ℕ, zero, suc, List, [], ◌∷◌, ◌++◌, map}
use Rattle.std.specs.List.{AllByRecursion}
use Rattle.meaning.specs.Values.{Named, Outcome, Val, Trapped, Birth, results_of, Aborted, Id}
use Rattle.meaning.specs.Syntax.{Script}
use Rattle.meaning.specs.Runs.{Run, Ends, Prints, Bears, Gets, piece, next_id, ids_from, named, behind}
use Rattle.meaning.specs.Meaning.{run_birth, replay}
use Rattle.script_laws.proofs.Keeping.{ValueWith, KeepsWith, births_keep, outcomes_with}
use Rattle.evaluation.specs.TaskValues.{IsTaskValue, AreTaskValues, IsTaskOutcome, AreTaskArguments, IsTaskBirth, AreTaskOutcomes, IsTaskPiece}
use Rattle.values.specs.Values as tasks
use Rattle.values.specs.declared.value.RunValue.{RunValue, Int as TInt, List' as TList, Id as TId, Row_of-RunValue, end_of-RunValue, more_of-RunValue}
use Rattle.values.specs.declared.content.Content.{Content}
use Rattle.values.specs.declared.content.Content.TheVariants as contents
use Rattle.task_spec.specs.Births.{argument_of, birth_of}
use Rattle.task_spec.specs.declared.birth.Argument.{Argument as TArgument}
use Rattle.task_spec.specs.declared.birth.Birth.{Birth as TBirth}
use Rattle.task_spec.specs.declared.birth.Birth.TheVariants as births

-- references are ids, any of them, and no outcome
abbrev AnyId : Id → Type 0
AnyId o = Unit {0}

abbrev NoOutcome : Outcome → Type 0
NoOutcome c = ⊥

names_plain : (o : Id) (n : ℕ) → AllByRecursion (ValueWith AnyId NoOutcome) (map Named (ids_from o n))
names_plain o zero = tt
names_plain o (suc n) = (tt, names_plain (next_id o) n)

module _ (n : ℕ) where
  plain_piece : (run : Run) (base : Id) (answers : List Outcome) → KeepsWith AnyId NoOutcome run → AreTaskOutcomes answers →
      IsTaskPiece (piece n run base answers)
  plain_piece (Ends e) base answers k h = record { births = tt; prints = tt; stop = outcomes_with AnyId NoOutcome n e k }
  plain_piece (Prints v next) base answers k h =
      let r = plain_piece next base answers k.1 h in
      record { births = r.births; prints = (k.0, r.prints); stop = r.stop }
  plain_piece (Bears b m next) base answers k h =
      let r = plain_piece (next (named base b)) (behind base b) answers (k.1 (named base b) (names_plain base (results_of b))) h in
      record { births = (k.0, r.births); prints = r.prints; stop = r.stop }
  plain_piece (Gets t r next) base [] k h = record { births = tt; prints = tt; stop = k.0 }
  plain_piece (Gets t r next) base (Val v ∷ answers) k h = plain_piece (next v) base answers (k.1 v h.0) h.1
  plain_piece (Gets t r next) base (Trapped e ∷ answers) k h =
      record { births = tt; prints = tt; stop = outcomes_with AnyId NoOutcome n (Aborted e) tt }

pub plain_replay : (script : Script) (spec : Birth) (base : Id) (answers : List Outcome) → IsTaskBirth spec → AreTaskOutcomes answers → IsTaskPiece (replay script spec base answers)
plain_replay script spec base answers s h = plain_piece (results_of spec) (run_birth script spec) base answers (births_keep AnyId NoOutcome script spec s) h

-- what tasks have is plain
mutual
  plain_value : (v : RunValue) → IsTaskValue (tasks.value_of v)
  plain_value (TInt n) = tt
  plain_value (TList shape all) = plain_row all
  plain_value (TId o) = tt

  plain_row : {m : _} (row : Row_of-RunValue m) → AreTaskValues (tasks.values_in row)
  plain_row end_of-RunValue = tt
  plain_row (more_of-RunValue v rest) = (plain_value v, plain_row rest)

plain_arguments : (args : List TArgument) → AreTaskArguments (map argument_of args)
plain_arguments [] = tt
plain_arguments (a ∷ args) = (plain_value a.value, plain_arguments args)

pub plain_birth : (b : TBirth) → IsTaskBirth (birth_of b)
plain_birth (births.Put v) = plain_value v
plain_birth (births.Task g args d k others) = plain_arguments args

plain_content : (c : Content) → IsTaskOutcome (tasks.content_of c)
plain_content (contents.Value v) = plain_value v
plain_content (contents.Trap t) = tt

pub plain_contents : (cs : List Content) → AreTaskOutcomes (map tasks.content_of cs)
plain_contents [] = tt
plain_contents (c ∷ cs) = (plain_content c, plain_contents cs)

pub plain_last : (cs : List Outcome) (c : Content) → AreTaskOutcomes cs → AreTaskOutcomes (cs ++ tasks.content_of c ∷ [])
plain_last [] c h = plain_contents (c ∷ [])
plain_last (x ∷ cs) c h = (h.0, plain_last cs c h.1)
