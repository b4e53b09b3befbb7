-- Where a job's task waits.
use Rattle.std.specs.Prelude.{◌≡◌, List, ◌++◌, ◌∷◌, []}
use Rattle.meaning.specs.Syntax.{Script}
use Rattle.meaning.specs.Values.{Outcome}
use Rattle.evaluation.specs.of_frames.Courses.{Past}
use Rattle.evaluation.specs.of_frames.Frames.{IsWaiting}
use Rattle.evaluation.specs.of_frames.declared.frame.Frame.{Frame}
use Rattle.segment.specs.Jobs.{Done, JobParts, whole_of}

-- what the job's task did on these of its answers
abbrev pub before_of : JobParts → List Outcome → Past
before_of j earlier = record { answers = earlier; births = j.births; prints = j.prints }

-- the job's task did all that the job has on all answers but the last, for which it waits at the frame
pub record Fits (script : Script) (j : JobParts) (f : Frame) : Type 0 where
  pub earlier : List Outcome
  pub answer : Outcome
  pub answers : j.answers ≡ earlier ++ answer ∷ []
  pub waits : IsWaiting script j.spec j.base (before_of j earlier) f

-- the task of the job that was run waits at the frame, behind all that was done and answered
abbrev pub WaitsAfter : Script → Done → Frame → Type 0
WaitsAfter script d f =
    IsWaiting script d.job.spec d.job.base
    (record { answers = d.job.answers; births = (whole_of d).births; prints = (whole_of d).prints }) f
