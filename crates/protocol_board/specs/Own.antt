-- Jobs, and attempts whose frames are kept, that are a run's own: what they were answered begins what the log has of answers to their attempts.
use Rattle.std.specs.Prelude.{◌≡◌, ℕ, List, slice_get, Option, Some, None}
use Rattle.meaning.specs.Lists.{IsFirst}
use Rattle.event_log.specs.Entries.{Entry}
use Rattle.event_log.specs.Words.{answers_of}
use Rattle.kept_frames.specs.Known.{AllAgree, KeepsWith, KnownData}
use Rattle.protocol_core.specs.of_protocol_laws.Given.{IsOfLog}
use Rattle.segment.specs.Jobs.{JobParts}

-- the job, if there is one
abbrev pub IsOwnJob : List Entry → Option JobParts → Type 0
IsOwnJob log None = Unit {0}
IsOwnJob log (Some j) = IsOfLog log j

-- each of the jobs
abbrev pub JobsAreOwn : List Entry → List (Option JobParts) → Type 0
JobsAreOwn log jobs = (place : ℕ) (j : JobParts) → slice_get jobs place ≡ Some (Some j) → IsOfLog log j

-- the attempt
abbrev pub IsOwnAttempt : List Entry → KnownData → Type 0
IsOwnAttempt log k = IsFirst k.answers (answers_of k.attempt log)

-- each of the attempts
abbrev pub FramesAreOwn : List Entry → List (Option KnownData) → Type 0
FramesAreOwn log kept = (place : ℕ) (k : KnownData) → slice_get kept place ≡ Some (Some k) → IsOwnAttempt log k

-- the job, if there is one, goes on from what is known of its attempt
abbrev pub JobAgrees : Option JobParts → List (Option KnownData) → Type 0
JobAgrees None kept = Unit {0}
JobAgrees (Some j) kept = AllAgree kept j

-- what is kept once the job was run, if there is one
abbrev pub KeepsWithJob : Option JobParts → List (Option KnownData) → List (Option KnownData) → Type 0
KeepsWithJob None before after = after ≡ before
KeepsWithJob (Some j) before after = KeepsWith j before after
