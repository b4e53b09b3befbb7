-- What a job is, and what is done on it.
use Rattle.std.specs.Prelude.{◌≡◌, ℕ, List, ◌++◌, length, drop, Some}
use Rattle.meaning.specs.Lists.{IsFirst}
use Rattle.meaning.specs.Values.{Birth, Put, Task, Value}
use Rattle.meaning.specs.Syntax.{Function, Script}
use Rattle.meaning.specs.Runs.{Piece}
use Rattle.meaning.specs.Meaning.{find, run_birth, replay}
use Rattle.meaning.specs.Kinds.{MarkedOf, AnswersFit}
use Rattle.frame_laws.specs.Steps.{HasSteps}
use Rattle.held.specs.declared.outcomes.Stopped.{Stopped}
use Rattle.held.specs.Stops.{stop_of}
-- a job: its number, the attempt and its task, the id of its first birth, what it did so far, and its answers so far
pub use Rattle.held.specs.declared.job.JobParts.{JobParts}

-- a job that was run: what it bore and printed beyond what the job had, and where it stopped
pub record Done : Type 0 where
  pub job : JobParts
  pub births : List Birth
  pub prints : List Value
  pub stop : Stopped

-- what the job's task does on the job's answers
abbrev pub replay_of : Script → JobParts → Piece
replay_of script j = replay script j.spec j.base j.answers

-- a piece without the births and prints that the job has already
abbrev pub beyond : JobParts → Piece → Piece
beyond j p = record { births = drop (length j.births) p.births; prints = drop (length j.prints) p.prints; stop = p.stop }

-- all that was born and printed up to the stop: what the job had, and then what was done
abbrev pub whole_of : Done → Piece
whole_of d =
    record {
      births = d.job.births ++ d.births;
      prints = d.job.prints ++ d.prints;
      stop = stop_of d.stop;
    }

-- a task of one of the script's functions, with its results and with arguments of its parameters' kinds
abbrev pub IsTaskOf : Script → Birth → Type 0
IsTaskOf script (Put v) = ⊥
IsTaskOf script (Task g args depth retries others) =
    (f : Function) × (find script g ≡ Some f) × MarkedOf args f.parameters × (length f.others ≡ others)

-- what is kept of each job of the script
pub record IsBegun (script : Script) (j : JobParts) : Type 0 where
  pub task : IsTaskOf script j.spec
  -- the answers are of the kinds asked for
  pub answers : AnswersFit (run_birth script j.spec) j.base j.answers
  -- births and prints so far begin those that the task's replay has
  pub births : IsFirst j.births (replay_of script j).births
  pub prints : IsFirst j.prints (replay_of script j).prints

-- what was done is true of its job: with what the job had, it is the whole replay
abbrev pub IsTrueOf : Script → Done → Type 0
IsTrueOf script d = replay_of script d.job ≡ whole_of d

-- the job's task began so many steps from its last stop, which was at the get of the last of the job's answers, up to where it stops
abbrev pub HasStepsOf : Script → JobParts → ℕ → Type 0
HasStepsOf script j steps = HasSteps script j.spec j.base j.answers steps
