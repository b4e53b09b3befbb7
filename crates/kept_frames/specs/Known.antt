-- What is known of an attempt that goes on.
use Rattle.std.specs.Prelude.{◌≡◌, ◌⊎◌, ℕ, ◌+◌, List, [], ◌∷◌, ◌++◌, length, slice_get, Option, Some}
use Rattle.meaning.specs.Syntax.{Script}
use Rattle.meaning.specs.Values.{Birth, Id, Outcome, Value}
use Rattle.meaning.specs.Lists.{IsFirst}
use Rattle.ids.specs.Attempts.{Attempt}
use Rattle.frames.specs.Frames.{IsWaiting}
use Rattle.frames.specs.declared.frame.Frame.{Frame}
use Rattle.segment.specs.Jobs.{Done, JobParts}

-- an attempt, its task, the id of its first birth, how many births and prints it made, and its answers
pub record KnownData : Type 0 where
  pub attempt : Attempt
  pub spec : Birth
  pub base : Id
  pub births : ℕ
  pub prints : ℕ
  pub answers : List Outcome

-- the attempt that was so answered waits at the frame, behind so many births and prints
pub record WaitsFor (script : Script) (k : KnownData) (f : Frame) : Type 0 where
  pub births : List Birth
  pub prints : List Value
  pub borne : length births ≡ k.births
  pub printed : length prints ≡ k.prints
  pub waits : IsWaiting script k.spec k.base (record { answers = k.answers; births = births; prints = prints }) f

-- the job's attempt, before its last answer
pub record IsNext (k : KnownData) (j : JobParts) : Type 0 where
  pub earlier : List Outcome
  pub answer : Outcome
  pub ends : j.answers ≡ earlier ++ answer ∷ []
  pub attempt : k.attempt ≡ j.attempt
  pub base : k.base ≡ j.base
  pub spec : k.spec ≡ j.spec
  pub births : k.births ≡ length j.births
  pub prints : k.prints ≡ length j.prints
  pub answers : k.answers ≡ earlier

-- the job's attempt, with as many births, prints and answers as before its last one
pub record IsShaped (k : KnownData) (j : JobParts) (earlier : List Outcome) : Type 0 where
  pub attempt : k.attempt ≡ j.attempt
  pub base : k.base ≡ j.base
  pub spec : k.spec ≡ j.spec
  pub births : k.births ≡ length j.births
  pub prints : k.prints ≡ length j.prints
  pub answers : length k.answers ≡ length earlier

-- the job's attempt
pub record IsAt (k : KnownData) (j : JobParts) : Type 0 where
  pub attempt : k.attempt ≡ j.attempt
  pub base : k.base ≡ j.base
  pub spec : k.spec ≡ j.spec
  pub births : k.births ≡ length j.births
  pub prints : k.prints ≡ length j.prints
  pub answers : k.answers ≡ j.answers

-- the job's attempt, once the job was run
pub record IsAfter (k : KnownData) (d : Done) : Type 0 where
  pub attempt : k.attempt ≡ d.job.attempt
  pub base : k.base ≡ d.job.base
  pub spec : k.spec ≡ d.job.spec
  pub births : k.births ≡ length d.job.births + length d.births
  pub prints : k.prints ≡ length d.job.prints + length d.prints
  pub answers : k.answers ≡ d.job.answers

-- where the job is of the attempt, with one answer more, its answers go on from those known
abbrev pub Agrees : KnownData → JobParts → Type 0
Agrees k j = k.attempt ≡ j.attempt → length k.answers + 1 ≡ length j.answers → IsFirst k.answers j.answers

-- so it is with each attempt that is kept
abbrev pub AllAgree : List (Option KnownData) → JobParts → Type 0
AllAgree kept j = (place : ℕ) (k : KnownData) → slice_get kept place ≡ Some (Some k) → Agrees k j

-- the job's attempt, with the job's answers
pub record IsOfJob (k : KnownData) (j : JobParts) : Type 0 where
  pub attempt : k.attempt ≡ j.attempt
  pub answers : k.answers ≡ j.answers

-- what is kept was kept before, or is the job's attempt with the job's answers
abbrev pub KeepsWith : JobParts → List (Option KnownData) → List (Option KnownData) → Type 0
KeepsWith j before after = (place : ℕ) (k : KnownData) → slice_get after place ≡ Some (Some k) → (slice_get before place ≡ Some (Some k)) ⊎ IsOfJob k j

-- what is kept was kept before
abbrev pub KeepsOnly : List (Option KnownData) → List (Option KnownData) → Type 0
KeepsOnly before after = (place : ℕ) (k : KnownData) → slice_get after place ≡ Some (Some k) → slice_get before place ≡ Some (Some k)

-- what is kept was kept before, or is this
abbrev pub KeepsOr : KnownData → List (Option KnownData) → List (Option KnownData) → Type 0
KeepsOr new before after = (place : ℕ) (k : KnownData) → slice_get after place ≡ Some (Some k) → (slice_get before place ≡ Some (Some k)) ⊎ (k ≡ new)
