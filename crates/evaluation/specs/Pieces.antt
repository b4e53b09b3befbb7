-- What the code's pieces stand for.
use Rattle.std.specs.Prelude.{◌≡◌, ◌⊎◌, ℕ, List, [], ◌∷◌, ◌++◌, map, Option, Some, None, IfSome}
use Rattle.meaning.specs.Syntax.{Script}
use Rattle.meaning.specs.Values as meant
use Rattle.meaning.specs.Values.{Id, Outcome, Trapped, Broken}
use Rattle.meaning.specs.Runs as runs
pub use Rattle.held.specs.Stops.{stop_of}
use Rattle.values.specs.declared.content.Content.{Content}
use Rattle.values.specs.Values.{content_of}
use Rattle.frame_laws.specs.Resuming.{after}
use Rattle.frames.specs.Values.{value_of as run_value_of}
use Rattle.frames.specs.Machines.{made_of}
use Rattle.frames.specs.Courses.{Past}
use Rattle.frames.specs.Frames.{IsWaiting}
use Rattle.frames.specs.Tasks.{stopped_by, piece_at}
use Rattle.frames.specs.declared.attempt.Attempt.{Attempt}
use Rattle.evaluation.specs.TaskValues.{IsTaskStop}
use Rattle.evaluation.specs.declared.piece.Piece.{Piece}

abbrev pub piece_of : Piece → runs.Piece
piece_of p = record { births = p.outcomes.births; prints = p.outcomes.prints; stop = stop_of p.outcomes.stop }

-- it stops where no task does
abbrev pub IsNoTaskStop : Option runs.Stop → Type 0
IsNoTaskStop None = ⊥
IsNoTaskStop (Some s) = IsTaskStop s → ⊥

-- one of them is an operand of the wrong kind
abbrev pub HasBroken : List Outcome → Type 0
HasBroken [] = ⊥
HasBroken (c ∷ cs) = (c ≡ Trapped Broken) ⊎ HasBroken cs

-- it is an end at which one of the results is broken
abbrev pub IsBrokenStop : runs.Stop → Type 0
IsBrokenStop (runs.Needs r) = ⊥
IsBrokenStop (runs.Over cs) = HasBroken cs

abbrev pub IsBrokenEnd : Option runs.Stop → Type 0
IsBrokenEnd None = ⊥
IsBrokenEnd (Some s) = IsBrokenStop s

-- behind that past the attempt of a task of so many results did this
abbrev pub Stands : ℕ → Past → Attempt → runs.Piece → Type 0
Stands n past a q = (s : runs.Stop) → stopped_by n a.halt ≡ Some s → q ≡ after past.births past.prints (piece_at a s)

-- the piece has what the attempt of a task of so many results did
pub record IsPieceOf (n : ℕ) (p : Piece) (a : Attempt) : Type 0 where
  pub births : p.outcomes.births ≡ map made_of a.births.items
  pub prints : p.outcomes.prints ≡ map run_value_of a.prints.items
  pub stop : stopped_by n a.halt ≡ Some (stop_of p.outcomes.stop)

-- all answers of one that goes on with this one
abbrev pub answered_so : Past → Content → List Outcome
answered_so past c = past.answers ++ content_of c ∷ []

-- the past of a task that went on from another past with these answers, and then did this
abbrev pub past_with : Past → List Outcome → Piece → Past
past_with past answers p = record {
  answers = past.answers ++ answers;
  births = past.births ++ p.outcomes.births;
  prints = past.prints ++ p.outcomes.prints;
}

-- the piece's frame, if it has one, is where the task waits that was answered and did all this
abbrev pub Keeps : Script → meant.Birth → Id → Past → List Outcome → Piece → Type 0
Keeps script spec base past answers p = IfSome p.frame (λ f. IsWaiting script spec base (past_with past answers p) f.value)
