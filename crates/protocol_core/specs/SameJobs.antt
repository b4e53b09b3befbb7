-- Jobs beside attempts as they stand.
use Rattle.std.specs.Prelude.{◌≡◌, ℕ, length}
use Rattle.meaning.specs.Lists.{IsFirst}
use Rattle.meaning.specs.Meaning.{replay}
use Rattle.meaning.specs.Syntax.{Script}
use Rattle.segment.specs.Jobs.{JobParts}
use Rattle.protocol.specs.Tables.{Execution}

-- what the attempt bore and printed begins what its task does on its answers
pub record IsInPace (script : Script) (run : Execution) : Type 0 where
  pub births : IsFirst run.births (replay script run.spec run.base run.answers).births
  pub prints : IsFirst run.prints (replay script run.spec run.base run.answers).prints

-- the job has the number, the attempt, its task, base and answers, and as many births and prints
pub record IsLike (j : JobParts) (n : ℕ) (run : Execution) : Type 0 where
  pub number : j.number ≡ n
  pub attempt : j.attempt ≡ run.attempt
  pub spec : j.spec ≡ run.spec
  pub base : j.base ≡ run.base
  pub answers : j.answers ≡ run.answers
  pub births : length j.births ≡ length run.births
  pub prints : length j.prints ≡ length run.prints

-- the job has the number, the attempt, its task and base, and as many births, prints and answers
pub record IsShaped (j : JobParts) (n : ℕ) (run : Execution) : Type 0 where
  pub number : j.number ≡ n
  pub attempt : j.attempt ≡ run.attempt
  pub spec : j.spec ≡ run.spec
  pub base : j.base ≡ run.base
  pub births : length j.births ≡ length run.births
  pub prints : length j.prints ≡ length run.prints
  pub answers : length j.answers ≡ length run.answers

-- as many answers of the job are the attempt's, where the job is of that attempt
abbrev pub HasItsAnswers : JobParts → Execution → Type 0
HasItsAnswers j run = j.attempt ≡ run.attempt → length j.answers ≡ length run.answers → j.answers ≡ run.answers
