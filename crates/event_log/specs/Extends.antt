-- What stays true of a log as it grows.
use Rattle.std.specs.Prelude.{◌≡◌, ℕ, true, false, List, ◌++◌, slice_get, Some}
use Rattle.script_laws.specs.of_meaning.Values.{Outcome, Birth, Id}
use Rattle.script_laws.specs.of_meaning.Births.{birth_at, Part, part_at}
use Rattle.event_log.specs.Entries.{Attempt, Fault, Entry}
use Rattle.event_log.specs.Words.{births, bearers_of, runs_of, answers_of, ends_of, Lack, faults_of, accepts_of, resolves_of, releases_of, opened}
use Rattle.event_log.specs.Events.{refused_next, claims, commits, node_is_killed, is_killed, was_told, was_lost}

-- whatever the one says of births, attempts, objects, workers and jobs, the other says too
pub record Extends (log later : List Entry) : Type 0 where
  pub parts : (o : Id) (p : Part) → part_at (births log) o ≡ Some p → part_at (births later) o ≡ Some p
  pub births : (o : Id) (b : Birth) → birth_at (births log) o ≡ Some b → birth_at (births later) o ≡ Some b
  pub bearers : (o : Id) (k : ℕ) (a : Attempt) → slice_get (bearers_of o log) k ≡ Some a → slice_get (bearers_of o later) k ≡ Some a
  pub runs : (o : Id) (k w : ℕ) → slice_get (runs_of o log) k ≡ Some w → slice_get (runs_of o later) k ≡ Some w
  pub answers : (a : Attempt) (k : ℕ) (c : Outcome) → slice_get (answers_of a log) k ≡ Some c → slice_get (answers_of a later) k ≡ Some c
  pub ends : (a : Attempt) (k : ℕ) (cs : List Outcome) → slice_get (ends_of a log) k ≡ Some cs → slice_get (ends_of a later) k ≡ Some cs
  pub faults : (a : Attempt) (k : ℕ) (x : Lack) → slice_get (faults_of a log) k ≡ Some x → slice_get (faults_of a later) k ≡ Some x
  pub accepts : (a : Attempt) (k : ℕ) (b : Attempt) → slice_get (accepts_of a log) k ≡ Some b → slice_get (accepts_of a later) k ≡ Some b
  pub resolves : (o : Id) (k : ℕ) (f : Fault) → slice_get (resolves_of o log) k ≡ Some f → slice_get (resolves_of o later) k ≡ Some f
  pub releases : (o : Id) (k : ℕ) (p : Id) → slice_get (releases_of o log) k ≡ Some p → slice_get (releases_of o later) k ≡ Some p
  pub opened : (k n : ℕ) → slice_get (opened log) k ≡ Some n → slice_get (opened later) k ≡ Some n
  pub claims : (k w : ℕ) → slice_get (claims log) k ≡ Some w → slice_get (claims later) k ≡ Some w
  pub commits : (k j : ℕ) → slice_get (commits log) k ≡ Some j → slice_get (commits later) k ≡ Some j
  pub node_kills : (n : ℕ) → node_is_killed n log ≡ true → node_is_killed n later ≡ true
  pub kills : (w : ℕ) → is_killed w log ≡ true → is_killed w later ≡ true
  pub notices : (w v : ℕ) → was_told w v log ≡ true → was_told w v later ≡ true
  pub losses : (n : ℕ) (o : Id) → was_lost n o log ≡ true → was_lost n o later ≡ true

-- further entries that don't begin with the refusal of the last event
abbrev pub LogsExtend : Type 0
LogsExtend = (log es : List Entry) → refused_next es ≡ false → Extends log (log ++ es)
